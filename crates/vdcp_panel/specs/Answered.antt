-- What a request is answered with, and what it leaves.
use Rattle.std.specs.Prelude.{ℕ, ◌≡◌, ◌≢◌, false, List, [], ◌∷◌, ◌++◌, codes, length, Option, None, Some, nat_lt, if◌then◌else◌}
use Rattle.http.specs.declared.request.Request.{Request}
use Rattle.http1.specs.Fields.{Header}
use Rattle.http_server.specs.Response.{fields_of}
use Rattle.http_server.specs.declared.response.Response.{Response}
use Rattle.vdcp_panel.specs.Asked.{called, is_let_in, shown}
use Rattle.vdcp_panel.specs.declared.call.Call.{Call}
use Rattle.vdcp_panel.specs.declared.gate.Gate.{Gate}

-- the calls that are held once this one was asked for: one more, if there is room
abbrev pub calls_after : List Call → Option Call → List Call
calls_after calls None = calls
calls_after calls (Some c) = if nat_lt (length calls) 16 then calls ++ c ∷ [] else calls

-- what is shown, or nothing
abbrev pub body_of : Option (List ℕ) → List ℕ
body_of None = []
body_of (Some bytes) = bytes

-- with these fields each answer begins: nobody keeps it, and no page of another origin has it or anything made of it
abbrev pub guards : List Header
guards =
    (codes "cache-control", codes "no-store")
    ∷ (codes "x-content-type-options", codes "nosniff")
    ∷ (codes "referrer-policy", codes "no-referrer")
    ∷ (codes "content-security-policy", codes "default-src 'none'; style-src 'unsafe-inline'; script-src 'unsafe-inline'; connect-src 'self'; img-src data:; frame-ancestors 'none'; base-uri 'none'; form-action 'none'")
    ∷ (codes "x-frame-options", codes "DENY")
    ∷ (codes "cross-origin-resource-policy", codes "same-origin")
    ∷ []

-- one more call is held
abbrev pub IsHeld : List Call → List Call → Type 0
IsHeld calls calls' = (c : Call) × (calls' ≡ calls ++ c ∷ [])

-- a request was answered so, if this page and this state were seen, and a call is about this event
pub record IsAnswered (g : Gate) (page state : List ℕ) (event : Option ℕ) (calls : List Call) (r : Request (List ℕ))
    (response : Response) (calls' : List Call) : Type 0 where
  -- it is shown what it asks for, as it is
  pub body : response.body.items ≡ body_of (shown g page state r)
  pub guarded : (more : List Header) × (fields_of response ≡ guards ++ more)
  -- the call that it asks for is held
  pub held : calls' ≡ calls_after calls (called g event r)
  -- 204 says that, and nothing else does
  pub accepted : response.status ≡ 204 → IsHeld calls calls'
  pub refused : response.status ≢ 204 → calls' ≡ calls
  pub outside : is_let_in g r ≡ false → response.status ≡ 403
