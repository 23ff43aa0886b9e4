use Rattle.std.proofs.Common.{◌<◌, refl}
use Rattle.std.proofs.lemmas.List.Elements.{All-nil}
use Rattle.vdcp_drive.specs.declared.hearing.Hearing.TheVariants.{AtOnce, AtSilences}
use Rattle.vdcp_laws.proofs.Bytes.{nothing_unfinished}
use Rattle.vdcp_laws.proofs.ServesOn.{Laws, prompt_leaves, untorn_on}
use Rattle.vdcp_laws.proofs.serve_calls.what_is_left_is_served.Given.{Over}
use Rattle.vdcp_laws.proofs.serve_calls.what_is_left_is_served.Goals as goal

laws : (g : Over) → goal.After-servers_go_on g → Laws
laws g c = record {
  reader = record {
    read = c.one_reading.ensures.some;
    before = c.a_spelling_is_its_message.ensures.before;
    only = c.one_spelling.ensures.only;
    size = λ m bytes s. (c.what_is_below.ensures.spelt.size m bytes s).0;
  };
  same = record {
    spelt = c.what_is_below.ensures.spelt;
    completed = c.what_is_below.ensures.completed;
    whole = c.written_is_read.ensures.computed;
    left = c.servers_go_on.ensures.left;
    acts = c.servers_go_on.ensures.acts;
    hooks = c.servers_go_on.ensures.hooks;
  };
}

pub returns-clause-new : goal.returns-clause-new
returns-clause-new g c AtSilences = record { octets = All-nil (λ b. b < 256); follows = c.what_is_fed_is_followed.ensures.start }
returns-clause-new g c AtOnce = record { is = refl; afoot = (refl, nothing_unfinished c.what_is_below.ensures.spelt) }

pub returns-clause-prompt : goal.returns-clause-prompt
returns-clause-prompt g c e count server server' h h' result works hears port reads leaves =
    prompt_leaves (laws g c) e count server server' h h' result works hears port reads leaves

pub returns-clause-untorn : goal.returns-clause-untorn
returns-clause-untorn g c e before count server server' h h' result downs s untorn =
    untorn_on (laws g c) e before downs s untorn
