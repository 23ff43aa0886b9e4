-- What counts of what a server's wire did is carried, as all of it is.
use Rattle.std.proofs.Common.{ℕ, ◌≡◌, List, [], ◌∷◌, ◌++◌, refl, sym, ap, ap₂, subst, ◌∙◌, append_assoc}
use Rattle.vdcp_wire.specs.Acts.{Act, brings, fails, sends}
use Rattle.vdcp_wire.specs.Wires.{bytes, close, silence}
use Rattle.vdcp_drive.specs.Serving.{Service}
use Rattle.vdcp_drive.specs.Traces.{came_in, sent_in}
use Rattle.vdcp_drive.specs.Turns.{arrivals}
use Rattle.vdcp_laws.specs.Carried.{AreCarried}
use Rattle.vdcp_laws.specs.Carried as carried
use Rattle.vdcp_laws.specs.Servers as servers
use Rattle.vdcp_laws.specs.Servers.{Counts, upto_message}
use Rattle.vdcp_laws.specs.TwoEnds.{Ends, bytes_in, sent_up}
use Rattle.vdcp_laws.proofs.Bytes.{none_before}
use Rattle.vdcp_laws.proofs.Carrying.{came_both, sent_both}
use Rattle.vdcp_laws.proofs.CutShort.{last_of, no_last, quiet}

same_piece : (piece other : List ℕ) → brings (bytes piece) ≡ brings (bytes other) → piece ≡ other
same_piece piece other is = cc

module _ (unit : ℕ) (e : Ends) (front : List Act) (piece behind : List ℕ) where
  abbrev whole : Act
  whole = brings (bytes (piece ++ behind))

  abbrev Heard : List Act → List Act → Type 0
  Heard autos out = AreCarried unit e autos (front ++ brings (bytes piece) ∷ out)

  same_sent : (out list : List Act) → list ≡ front ++ whole ∷ out
      → sent_in (front ++ brings (bytes piece) ∷ out) ≡ sent_in list
  same_sent out list is = sent_both front (brings (bytes piece) ∷ out) ∙ sym (ap sent_in is ∙ sent_both front (whole ∷ out))

  -- an act behind the piece
  behind_it : (autos list : List Act) (a : Act) (out : List Act) → (a ≡ whole → ⊥)
      → ((rest : List Act) → list ≡ front ++ whole ∷ rest → came_in rest ≡ [] → Heard autos rest)
      → ((rest : List Act) → Heard autos rest → AreCarried unit e autos ((front ++ brings (bytes piece) ∷ rest) ++ a ∷ []))
      → list ++ a ∷ [] ≡ front ++ whole ∷ out → came_in out ≡ [] → Heard autos out
  behind_it autos list a out other before on is none = last_of list a front whole out is (λ same act last. absurd (other act))
      (λ rest parts last. subst (Heard autos) (sym last)
      (subst (AreCarried unit e autos) (append_assoc front (brings (bytes piece) ∷ rest) (a ∷ []))
      (on rest (before rest parts
      (none_before (came_in rest) (came_in (a ∷ [])) (sym none ∙ ap came_in last ∙ came_both rest (a ∷ [])))))))

  pub heard : {autos list : List Act} → AreCarried unit e autos list → (out : List Act) → list ≡ front ++ whole ∷ out
      → came_in out ≡ [] → Heard autos out
  heard carried.begun out is none = absurd (no_last front whole out is)
  heard (carried.sent c b) out is none = carried.sent (heard c out is none) b
  heard (carried.up {autos} {servers} c some rest eq) out is none = carried.up (heard c out is none) some rest
      (ap (λ (l : List ℕ). sent_up e ++ l) (same_sent out servers is) ∙ eq)
  heard (carried.waited c) out is none = carried.waited (heard c out is none)
  heard (carried.hung_up c) out is none = carried.hung_up (heard c out is none)
  heard (carried.failed c) out is none = carried.failed (heard c out is none)
  heard (carried.answered {autos} {servers} c b) out is none =
      behind_it autos servers (sends b) out (λ same. cc) (heard c) (λ rest h. carried.answered h b) is none
  heard (carried.down {autos} {servers} c some rest eq) out is none = last_of servers (brings (bytes some)) front whole out is
      (λ same act last. subst (Heard autos) (sym last) (carried.down (subst (AreCarried unit e autos) same c) piece (behind ++ rest)
      (eq ∙ ap₂ (λ (l : List Act) (p : List ℕ). (bytes_in (arrivals e.downs) ++ bytes_in (came_in l)) ++ (p ++ rest)) same
      (same_piece some (piece ++ behind) act)
      ∙ ap (λ (l : List ℕ). (bytes_in (arrivals e.downs) ++ bytes_in (came_in front)) ++ l) (append_assoc piece behind rest))))
      (λ before parts last. absurd (no_last (came_in before) (bytes some) []
      (sym none ∙ ap came_in last ∙ came_both before (brings (bytes some) ∷ []))))
  heard (carried.paused {autos} {servers} c) out is none =
      behind_it autos servers (brings silence) out (λ same. cc) (heard c) (λ rest h. carried.paused h) is none
  heard (carried.shut {autos} {servers} c) out is none =
      behind_it autos servers (brings close) out (λ same. cc) (heard c) (λ rest h. carried.shut h) is none
  heard (carried.broke {autos} {servers} c) out is none =
      behind_it autos servers fails out (λ same. cc) (heard c) (λ rest h. carried.broke h) is none

module _ (unit : ℕ) (e : Ends) (front : List Act) where
  abbrev Failed : List Act → Type 0
  Failed autos = AreCarried unit e autos (front ++ fails ∷ [])

  -- a silence, or what sends nothing behind it
  left_out : (autos list : List Act) (a : Act) (out : List Act) → AreCarried unit e autos list
      → ((rest : List Act) → list ≡ front ++ brings silence ∷ rest → sent_in rest ≡ [] → Failed autos)
      → list ++ a ∷ [] ≡ front ++ brings silence ∷ out → sent_in out ≡ [] → Failed autos
  left_out autos list a out c before is none = last_of list a front (brings silence) out is
      (λ same act last. carried.broke (subst (AreCarried unit e autos) same c))
      (λ rest parts last. before rest parts
      (none_before (sent_in rest) (sent_in (a ∷ [])) (sym none ∙ ap sent_in last ∙ sent_both rest (a ∷ []))))

  pub unheard : {autos list : List Act} → AreCarried unit e autos list → (out : List Act)
      → list ≡ front ++ brings silence ∷ out → sent_in out ≡ [] → Failed autos
  unheard carried.begun out is none = absurd (no_last front (brings silence) out is)
  unheard (carried.sent c b) out is none = carried.sent (unheard c out is none) b
  unheard (carried.up {autos} {servers} c some rest eq) out is none = carried.up (unheard c out is none) some rest
      (ap (λ (l : List ℕ). sent_up e ++ l) (sent_both front (fails ∷ []) ∙ ap (λ (l : List ℕ). sent_in front ++ l) (sym none)
      ∙ sym (ap sent_in is ∙ sent_both front (brings silence ∷ out))) ∙ eq)
  unheard (carried.waited c) out is none = carried.waited (unheard c out is none)
  unheard (carried.hung_up c) out is none = carried.hung_up (unheard c out is none)
  unheard (carried.failed c) out is none = carried.failed (unheard c out is none)
  unheard (carried.answered {autos} {servers} c b) out is none = left_out autos servers (sends b) out c (unheard c) is none
  unheard (carried.down {autos} {servers} c some rest eq) out is none =
      left_out autos servers (brings (bytes some)) out c (unheard c) is none
  unheard (carried.paused {autos} {servers} c) out is none = left_out autos servers (brings silence) out c (unheard c) is none
  unheard (carried.shut {autos} {servers} c) out is none = left_out autos servers (brings close) out c (unheard c) is none
  unheard (carried.broke {autos} {servers} c) out is none = left_out autos servers fails out c (unheard c) is none

pub counted : (unit : ℕ) (e : Ends) (autos front : List Act) (s : Service) (done last : List Act) → Counts s done last
    → AreCarried unit e autos (front ++ done) → AreCarried unit e autos (front ++ last)
counted unit e autos front s done _ servers.all c = c
counted unit e autos front s done _ (upto_message piece behind out port aired is short) c =
    heard unit e front piece behind c out (ap (λ (l : List Act). front ++ l) is) (quiet s piece out port aired short)
counted unit e autos front s done _ (servers.unanswered is) c =
    unheard unit e front c (sends [] ∷ []) (ap (λ (l : List Act). front ++ l) is) refl
