-- What is carried between an automation's side and a server leads both ends on.
use Rattle.std.proofs.Common.{ℕ, ◌≡◌, List, [], ◌∷◌, ◌++◌, refl, sym, ap, ap₂, subst, ◌∙◌, append_assoc, append-nil}
use Rattle.vdcp_words.specs.declared.reply.Reply.{Reply}
use Rattle.vdcp_port.specs.Clock.{ClockedPort}
use Rattle.vdcp_auto.specs.Plan.{Plan}
use Rattle.vdcp_wire.specs.Acts.{Act, sends, brings, fails}
use Rattle.vdcp_wire.specs.Wires.{Arrival, bytes, silence, close}
use Rattle.vdcp_drive.specs.Traces.{came_in, sent_in}
use Rattle.vdcp_drive.specs.Served.{IsMoment, only}
use Rattle.vdcp_drive.specs.Serving.{Service, acts_of, begins, left_by, replies, sending, serves}
use Rattle.vdcp_drive.specs.Turns.{Turn, arrivals, frame, listen}
use Rattle.vdcp_drive.specs.declared.hearing.Hearing.TheVariants.{AtOnce}
use Rattle.vdcp_laws.specs.Carried.{AreCarried}
use Rattle.vdcp_laws.specs.Carried as carried
use Rattle.vdcp_laws.specs.OneConnection.{hears_in}
use Rattle.vdcp_laws.specs.TwoEnds as two
use Rattle.vdcp_laws.specs.TwoEnds.{Ends, bytes_in, sent_down, sent_up, server_new, server_now, with_down}
use Rattle.vdcp_laws.proofs.Carrying.{Leads, Side, came_both, sent_both}
use Rattle.vdcp_laws.proofs.Fronts.{next_of, upto, upto_came, upto_front}
use Rattle.vdcp_laws.proofs.Serving.{bytes_both}

-- if what went out is enough for what came, so is all that was to go out
enough : (now sent some came piece rest more : List ℕ) → now ≡ sent ++ (some ++ more) → sent ++ some ≡ came ++ (piece ++ rest)
    → now ≡ came ++ (piece ++ (rest ++ more))
enough now sent some came piece rest more all is =
    all ∙ sym (append_assoc sent some more) ∙ ap (λ (l : List ℕ). l ++ more) is ∙ append_assoc came (piece ++ rest) more
    ∙ ap (λ (l : List ℕ). came ++ l) (append_assoc piece rest more)

-- a front without its last act
abbrev pub IsFront : List Act → List Act → Type 0
IsFront list so_far = (behind : List Act) × (list ≡ so_far ++ behind)

without : (list so_far : List Act) (act : Act) → IsFront list (so_far ++ act ∷ []) → IsFront list so_far
without list so_far act (behind, is) = (act ∷ behind, is ∙ append_assoc so_far (act ∷ []) behind)

same_came : (so_far : List Act) (act : Act) → came_in (act ∷ []) ≡ [] → came_in (so_far ++ act ∷ []) ≡ came_in so_far
same_came so_far act none =
    came_both so_far (act ∷ []) ∙ ap (λ (l : List Arrival). came_in so_far ++ l) none ∙ append-nil (came_in so_far)

-- what it has sent by any act of its wire is of what it answers to what had happened by then
abbrev pub SendsAnswers : Ends → List Turn → List Act → Type 0
SendsAnswers e turns list = (some behind : List Act) → list ≡ some ++ behind → (rest : List ℕ)
    × (sent_in (acts_of (server_new e) (e.downs ++ upto turns (came_in some)))
    ≡ sent_up e ++ (sent_in some ++ rest))

-- frames send nothing
silent_frames : (s : Service) (later : List Turn) → acts_of s (upto later []) ≡ []
silent_frames s [] = refl
silent_frames s (listen a ∷ later) = refl
silent_frames s (frame ∷ later) = silent_frames (serves frame s) later

-- vdcp_drive::laws::servers_go_on
abbrev pub ServersGoOn : Type 0
ServersGoOn = (s : Service) (xs ys : List Turn) → acts_of s (xs ++ ys) ≡ acts_of s xs ++ acts_of (left_by s xs) ys

-- these acts are of the first of these turns, whose answers begin with what went out
pub record IsMomentOf (e : Ends) (turns : List Turn) (some : List Act) : Type 0 where
  pub upto : List Turn
  pub later : List Turn
  pub parts : turns ≡ upto ++ later
  pub came : arrivals upto ≡ came_in some
  pub rest : List ℕ
  pub sent : sent_in (acts_of (server_new e) (e.downs ++ upto)) ≡ sent_up e ++ (sent_in some ++ rest)

pub moment_of : (law : ServersGoOn) (e : Ends) (turns : List Turn) (some : List Act) → IsMoment (server_now e) turns some
    → IsMomentOf e turns some
moment_of law e turns some m = record {
  upto = m.upto;
  later = m.later;
  parts = m.parts;
  came = m.came;
  rest = m.rest;
  sent = ap sent_in (law (server_new e) e.downs m.upto)
      ∙ sent_both (acts_of (server_new e) e.downs) (acts_of (server_now e) m.upto)
      ∙ ap (λ (l : List ℕ). sent_up e ++ l) m.sent;
}

pub sends_answers : (law : ServersGoOn) (e : Ends) (turns : List Turn) (list : List Act)
    → ((some behind : List Act) → list ≡ some ++ behind → IsMomentOf e turns some) → SendsAnswers e turns list
sends_answers law e turns list moments some behind parts =
    let m = moments some behind parts in
    let all : List Turn = e.downs ++ m.upto in
    let frames : List Turn = upto m.later [] in
    let front : e.downs ++ upto turns (came_in some) ≡ all ++ frames =
    ap (λ (l : List Turn). e.downs ++ l)
    (ap₂ upto m.parts (sym m.came) ∙ upto_front m.upto m.later)
    ∙ sym (append_assoc e.downs m.upto frames) in
    let acts : acts_of (server_new e) (all ++ frames) ≡ acts_of (server_new e) all =
    law (server_new e) all frames
    ∙ ap (λ (l : List Act). acts_of (server_new e) all ++ l) (silent_frames (left_by (server_new e) all) m.later)
    ∙ append-nil (acts_of (server_new e) all) in
    (m.rest, ap (λ (l : List Turn). sent_in (acts_of (server_new e) l)) front ∙ ap sent_in acts ∙ m.sent)

-- the listens of its turns are those that brought what came
pub came_sent : (unit : ℕ) (replies : List Reply) (more : List Act) → came_in (sending unit replies ++ more) ≡ came_in more
came_sent unit [] more = refl
came_sent unit (r ∷ replies) more = came_sent unit replies more

pub turns_whole : (s : Service) (turns : List Turn) (done : List Act)
    → came_in (acts_of s turns ++ done) ≡ arrivals (turns ++ only (came_in done))
turns_whole s [] done = all (came_in done) where
  all : (came : List Arrival) → came ≡ arrivals (only came)
  all [] = refl
  all (a ∷ came) = ap (λ (l : List Arrival). a ∷ l) (all came)
turns_whole s (frame ∷ later) done = turns_whole (serves frame s) later done
turns_whole s (listen a ∷ later) done =
    let out : List Act = sending s.port.state.unit (replies a s) in
    let then : List Act = acts_of (serves (listen a) s) later in
    ap (λ (l : List Act). a ∷ came_in l) (append_assoc out then done)
    ∙ ap (λ (l : List Arrival). a ∷ l)
    (came_sent s.port.state.unit (replies a s) (then ++ done) ∙ turns_whole (serves (listen a) s) later done)

-- the frames that follow pass
frames_on : (plan : Plan) (unit : ℕ) (R : Ends → Ends → Type 0) (leads : Leads plan unit R) (first e : Ends)
    (downs later : List Turn) → R first (record e { downs = downs })
    → R first (record e { downs = downs ++ upto later [] })
frames_on plan unit R leads first e downs [] j =
    subst (λ (l : List Turn). R first (record e { downs = l })) (sym (append-nil downs)) j
frames_on plan unit R leads first e downs (listen a ∷ later) j =
    subst (λ (l : List Turn). R first (record e { downs = l })) (sym (append-nil downs)) j
frames_on plan unit R leads first e downs (frame ∷ later) j =
    subst (λ (l : List Turn). R first (record e { downs = l })) (append_assoc downs (frame ∷ []) (upto later []))
    (frames_on plan unit R leads first e (downs ++ frame ∷ []) later (leads.on two.passed tt j))

-- what comes next in a list
pub next_in : (list so_far behind : List Act) (what : Arrival) → list ≡ (so_far ++ brings what ∷ []) ++ behind
    → came_in list ≡ came_in so_far ++ what ∷ came_in behind
next_in list so_far behind what is =
    ap came_in (is ∙ append_assoc so_far (brings what ∷ []) behind) ∙ came_both so_far (brings what ∷ behind)

-- what came down by then
downs_so : (e : Ends) (turns : List Turn) (below servers : List Act) → came_in below ≡ arrivals turns
    → IsFront below servers
    → bytes_in (arrivals (e.downs ++ upto turns (came_in servers)))
    ≡ bytes_in (arrivals e.downs) ++ bytes_in (came_in servers)
downs_so e turns below servers whole back =
    bytes_both e.downs (upto turns (came_in servers))
    ∙ ap (λ (l : List Arrival). bytes_in (arrivals e.downs) ++ bytes_in l)
    (upto_came turns (came_in servers) (came_in back.0) (sym whole ∙ ap came_in back.1 ∙ came_both servers back.0))

-- it brings no bytes
abbrev pub IsQuiet : Arrival → Type 0
IsQuiet (bytes piece) = ⊥
IsQuiet silence = Unit {0}
IsQuiet close = Unit {0}

-- where both ends are then
abbrev IsThere : (Ends → Ends → Type 0) → Ends → (List Arrival → Ends) → List Turn → List Act → List Act → Type 0
IsThere R e at turns autos servers =
    R e (record (at (came_in autos)) { downs = e.downs ++ upto turns (came_in servers) })

module _ (plan : Plan) (unit : ℕ) (R : Ends → Ends → Type 0) (leads : Leads plan unit R) (e : Ends) (list : List Act)
    (last : Ends) (turns : List Turn) (below : List Act) (s : Side plan unit R e (sent_down unit e) list last)
    (waits : (now : Ends) (autos : List Act) (a : Arrival) → IsFront list (autos ++ brings a ∷ []) → IsQuiet a
    → R e now → R e (hears_in plan unit a now)) (whole : came_in below ≡ arrivals turns)
    (answers : SendsAnswers e turns below) where
  silent : (autos : List Act) (act : Act) (servers : List Act) → came_in (act ∷ []) ≡ []
      → IsThere R e s.at turns autos servers → IsThere R e s.at turns (autos ++ act ∷ []) servers
  silent autos act servers none h =
      subst (λ (l : List Arrival). R e
      (record (s.at l) { downs = e.downs ++ upto turns (came_in servers) })) (sym (same_came autos act none)) h

  silent_below : (autos servers : List Act) (act : Act) → came_in (act ∷ []) ≡ []
      → IsThere R e s.at turns autos servers → IsThere R e s.at turns autos (servers ++ act ∷ [])
  silent_below autos servers act none h =
      subst (λ (l : List Arrival). R e
      (record (s.at (came_in autos)) { downs = e.downs ++ upto turns l })) (sym (same_came servers act none)) h

  -- something comes down, and the frames that follow pass
  lower : (autos servers : List Act) (what : Arrival) → IsFront below (servers ++ brings what ∷ [])
      → R e (with_down (listen what) (record (s.at (came_in autos))
      { downs = e.downs ++ upto turns (came_in servers) }))
      → IsThere R e s.at turns autos (servers ++ brings what ∷ [])
  lower autos servers what back j =
      let n = next_of turns (came_in servers) what (came_in back.0)
      (sym whole ∙ next_in below servers back.0 what back.1) in
      let front : List Turn = upto turns (came_in servers) in
      let now : Ends = s.at (came_in autos) in
      let frames : List Turn = upto n.0 [] in
      let all : ((e.downs ++ front) ++ listen what ∷ []) ++ frames
      ≡ e.downs ++ upto turns (came_in (servers ++ brings what ∷ [])) =
      append_assoc (e.downs ++ front) (listen what ∷ []) frames
      ∙ append_assoc e.downs front (listen what ∷ frames)
      ∙ ap (λ (l : List Turn). e.downs ++ l) (sym n.1 ∙ ap (upto turns) (sym (came_both servers (brings what ∷ [])))) in
      subst (λ (l : List Turn). R e (record now { downs = l })) all
      (frames_on plan unit R leads e now ((e.downs ++ front) ++ listen what ∷ []) n.0 j)

  -- something comes up
  higher : (autos servers : List Act) (what : Arrival) → IsFront list (autos ++ brings what ∷ [])
      → R e (record (hears_in plan unit what (s.at (came_in autos)))
      { downs = e.downs ++ upto turns (came_in servers) })
      → IsThere R e s.at turns (autos ++ brings what ∷ []) servers
  higher autos servers what front j =
      let downs : List Turn = e.downs ++ upto turns (came_in servers) in
      subst (λ (l : List Arrival). R e (record (s.at l) { downs = downs }))
      (sym (came_both autos (brings what ∷ [])))
      (s.goes_on e downs (came_in autos) (came_in front.0) what (next_in list autos front.0 what front.1) j)

  come : (autos servers : List Act) → AreCarried unit e autos servers → IsFront list autos → IsFront below servers
      → IsThere R e s.at turns autos servers
  come _ _ carried.begun front back =
      frames_on plan unit R leads e (s.at []) e.downs turns (s.begins e e.downs (leads.begun e))
  come _ _ (carried.sent {autos} {servers} h b) front back =
      silent autos (sends b) servers refl (come autos servers h (without list autos (sends b) front) back)
  come _ _ (carried.up {autos} {servers} h piece rest is) front back =
      let before = without list autos (brings (bytes piece)) front in
      let out = answers servers back.0 back.1 in
      let downs : List Turn = e.downs ++ upto turns (came_in servers) in
      let came : List ℕ = e.ups ++ bytes_in (came_in autos) in
      higher autos servers (bytes piece) front
      (leads.on (two.came_up piece (rest ++ out.0)
      (ap (λ (p : ClockedPort). sent_in (acts_of (begins AtOnce p) downs)) (s.port (came_in autos))
      ∙ enough (sent_in (acts_of (server_new e) downs)) (sent_up e) (sent_in servers) came piece rest out.0 out.1 is
      ∙ ap (λ (l : List ℕ). l ++ (piece ++ (rest ++ out.0)))
      (sym (s.ups (came_in autos) (came_in before.0) (ap came_in before.1 ∙ came_both autos before.0)))))
      tt (come autos servers h before back))
  come _ _ (carried.waited {autos} {servers} h) front back =
      higher autos servers silence front
      (waits _ autos silence front tt (come autos servers h (without list autos (brings silence) front) back))
  come _ _ (carried.hung_up {autos} {servers} h) front back =
      higher autos servers close front
      (waits _ autos close front tt (come autos servers h (without list autos (brings close) front) back))
  come _ _ (carried.failed {autos} {servers} h) front back =
      silent autos fails servers refl (come autos servers h (without list autos fails front) back)
  come _ _ (carried.answered {autos} {servers} h b) front back =
      silent_below autos servers (sends b) refl (come autos servers h front (without below servers (sends b) back))
  come _ _ (carried.down {autos} {servers} h piece rest is) front back =
      let before = without below servers (brings (bytes piece)) back in
      let out = s.sends autos front.0 front.1 in
      let came : List ℕ = bytes_in (arrivals e.downs) ++ bytes_in (came_in servers) in
      lower autos servers (bytes piece) back
      (leads.on (two.came_down piece (rest ++ out.0)
      (enough (sent_down unit (s.at (came_in autos))) (sent_down unit e) (sent_in autos) came piece rest out.0
      out.1 is
      ∙ ap (λ (l : List ℕ). l ++ (piece ++ (rest ++ out.0))) (sym (downs_so e turns below servers whole before))))
      tt (come autos servers h front before))
  come _ _ (carried.paused {autos} {servers} h) front back =
      lower autos servers silence back
      (leads.on two.paused tt (come autos servers h front (without below servers (brings silence) back)))
  come _ _ (carried.shut {autos} {servers} h) front back =
      lower autos servers close back
      (leads.on two.shut tt (come autos servers h front (without below servers (brings close) back)))
  come _ _ (carried.broke {autos} {servers} h) front back =
      silent_below autos servers fails refl (come autos servers h front (without below servers fails back))

  -- all of it
  pub side_led : AreCarried unit e list below → R e (record last { downs = e.downs ++ turns })
  side_led c =
      subst (λ (x : Ends). R e (record x { downs = e.downs ++ turns })) s.ends
      (subst (λ (l : List Turn). R e (record (s.at (came_in list)) { downs = e.downs ++ l }))
      (ap₂ upto (sym (append-nil turns)) whole ∙ upto_front turns [] ∙ append-nil turns)
      (come list below c ([], sym (append-nil list)) ([], sym (append-nil below))))
