use Rattle.vdcp_value.proofs.Ids.{bytes-id_of, id_of-bytes, same_id, told_ids}
use Rattle.vdcp_value.proofs.laws.an_id_is_its_bytes.Goals as goal

pub returns-clause-eight : goal.returns-clause-eight
returns-clause-eight c = λ id. id.eight

pub returns-clause-one : goal.returns-clause-one
returns-clause-one c = same_id

pub returns-clause-same : goal.returns-clause-same
returns-clause-same c = told_ids

pub returns-clause-of_bytes : goal.returns-clause-of_bytes
returns-clause-of_bytes c = bytes-id_of

pub returns-clause-of_id : goal.returns-clause-of_id
returns-clause-of_id c = id_of-bytes
