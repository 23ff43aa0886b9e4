-- Which requests are let in, what a request is shown, and which call it asks for.
use Rattle.std.specs.Prelude.{ℕ, Bool, true, false, ◌&&◌, ◌||◌, List, [], ◌∷◌, codes, decimal, drop, take, Option, None, Some, bytes_eq, if◌then◌else◌}
use Rattle.http.specs.FieldValue.{FieldValue}
use Rattle.http.specs.HeaderMap.{get, get_all}
use Rattle.http.specs.Uri.{uri_authority, uri_path}
use Rattle.http.specs.declared.request.Request.{Request}
use Rattle.http.specs.Request.{head_of}
use Rattle.vdcp_panel.specs.Numbers.{number_in}
use Rattle.vdcp_panel.specs.declared.call.Call.{Call}
use Rattle.vdcp_panel.specs.declared.call.Call.TheVariants.{Take, Stop, Hold, Go, Skip}
use Rattle.vdcp_panel.specs.declared.gate.Gate.{Gate}
use Rattle.vdcp_panel.specs.declared.gate.Name.{Name}
use Rattle.vdcp_panel.specs.declared.wish.Place.{Place}
use Rattle.vdcp_panel.specs.declared.wish.Place.TheVariants as places
use Rattle.vdcp_panel.specs.declared.wish.Verb.{Verb}
use Rattle.vdcp_panel.specs.declared.wish.Verb.TheVariants as verbs

-- the value is this text
abbrev pub is_text : Option FieldValue → List ℕ → Bool
is_text None text = false
is_text (Some v) text = bytes_eq v.bytes text

-- there is no value, or one, which is this text
abbrev pub may_be_text : List FieldValue → List ℕ → Bool
may_be_text [] text = true
may_be_text (v ∷ []) text = bytes_eq v.bytes text
may_be_text (v ∷ w ∷ values) text = false

-- the target has this host, or none
abbrev pub may_be_at : Option (List ℕ) → List ℕ → Bool
may_be_at None host = true
may_be_at (Some target) host = bytes_eq target host

-- the request is to this name, and from no page of another one
abbrev pub is_of : Name → Request (List ℕ) → Bool
is_of name r =
    is_text (get (head_of r).headers (codes "host")) name.host.now
    && (may_be_at (uri_authority (head_of r).uri) name.host.now
    && may_be_text (get_all (head_of r).headers (codes "origin")) name.origin.now)

abbrev pub is_let_in : Gate → Request (List ℕ) → Bool
is_let_in g r = is_of g.address r || is_of g.local r

-- it has the token
abbrev pub has_token : Gate → Request (List ℕ) → Bool
has_token g r = is_text (get (head_of r).headers (codes "x-panel-token")) g.token.now

-- it is let in, and has the token
abbrev pub shows_token : Gate → Request (List ℕ) → Bool
shows_token g r = is_let_in g r && has_token g r

-- it names this event
abbrev pub is_about : Option ℕ → Request (List ℕ) → Bool
is_about None r = false
is_about (Some event) r = is_text (get (head_of r).headers (codes "x-panel-event")) (decimal event)

-- what a method does, and where a path leads
abbrev pub verb_of : List ℕ → Verb
verb_of method =
    if bytes_eq method (codes "GET") || bytes_eq method (codes "HEAD") then verbs.Read
    else if bytes_eq method (codes "POST") then verbs.Post
    else verbs.Other

-- the call that leaves out this event
abbrev pub place_to_skip : Option ℕ → Place
place_to_skip None = places.Nowhere
place_to_skip (Some event) = places.Call (Skip event)

abbrev pub place_of : List ℕ → Place
place_of path =
    if bytes_eq path (codes "/") then places.Page
    else if bytes_eq path (codes "/state") then places.State
    else if bytes_eq path (codes "/take") then places.Call Take
    else if bytes_eq path (codes "/stop") then places.Call Stop
    else if bytes_eq path (codes "/hold") then places.Call Hold
    else if bytes_eq path (codes "/go") then places.Call Go
    else if bytes_eq (take 6 path) (codes "/skip/") then place_to_skip (number_in (drop 6 path))
    else places.Nowhere

abbrev pub shown_at : List ℕ → List ℕ → Place → Verb → Option (List ℕ)
shown_at page state places.Page verbs.Read = Some page
shown_at page state places.State verbs.Read = Some state
shown_at page state _ _ = None

abbrev pub called_at : Place → Verb → Option Call
called_at (places.Call call) verbs.Post = Some call
called_at _ _ = None

-- what a request is shown: the page or the state, if it is let in and reads
abbrev pub shown : Gate → (page state : List ℕ) → Request (List ℕ) → Option (List ℕ)
shown g page state r =
    if is_let_in g r then shown_at page state (place_of (uri_path (head_of r).uri)) (verb_of (head_of r).method)
    else None

-- the call that a request asks for: a POST that is let in, with the token, and about this event
abbrev pub called : Gate → Option ℕ → Request (List ℕ) → Option Call
called g event r =
    if is_let_in g r && (has_token g r && is_about event r)
    then called_at (place_of (uri_path (head_of r).uri)) (verb_of (head_of r).method)
    else None
