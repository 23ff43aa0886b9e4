-- What a row says of its event.
use Rattle.std.proofs.Common.{◌≡◌, ℕ, List, refl}
use Rattle.vdcp_operator.specs.Rows.{IsRow, row_of}
use Rattle.vdcp_operator.specs.Seen.{with_number}
use Rattle.vdcp_operator.specs.declared.seen.EventBefore.{EventBefore}
use Rattle.vdcp_operator.specs.declared.seen.EventSeen.{EventSeen}
use Rattle.vdcp_operator.specs.declared.shown.News.{News}
use Rattle.vdcp_value.specs.declared.part.Item.{Item}

pub is_row : (news : News) (older : List EventSeen) (before : List EventBefore) (k : ℕ) (item : Item) (row : EventSeen)
    → row ≡ row_of news older before k item → IsRow news older before row
is_row news older before k item row is = rw is refl

pub has_number : (news : News) (older : List EventSeen) (before : List EventBefore) (k : ℕ) (item : Item) (row : EventSeen)
    → row ≡ row_of news older before k item → with_number row ≡ (k, item)
has_number news older before k item row is = rw is refl
