-- The texts and ends of a playlist's IDs after one more item.
use Rattle.std.proofs.Common.{◌≡◌, ℕ, ◌+◌, true, List, [], ◌∷◌, ◌++◌, length, refl, sym, ap, subst, ◌∙◌, arith}
use Rattle.std.proofs.Common.{append_assoc, append-nil, length-append, zero-add}
use Rattle.std.proofs.Math.Bool.{and-eq-true_iff}
use Rattle.std.specs.List.{list_all}
use Rattle.std.proofs.lemmas.Str.{IsAscii-append, IsUtf8-from_ascii}
use Rattle.std.specs.Prelude.{IsAscii, IsUtf8}
use Rattle.vdcp_value.specs.Ids.{text_of_id}
use Rattle.vdcp_list.specs.Listings.{ids_text, ends_from, is_of_bytes}
use Rattle.vdcp_list.specs.declared.list.List.{List as Playlist}
use Rattle.vdcp_value.specs.declared.clip_id.ClipId.{ClipId}
use Rattle.vdcp_value.specs.declared.part.Item.{Item}

ids_text-push : (items : List Item) (item : Item) → ids_text (items ++ item ∷ []) ≡ ids_text items ++ text_of_id item.id
ids_text-push [] item = append-nil (text_of_id item.id)
ids_text-push (first ∷ items) item =
    ap (λ t. text_of_id first.id ++ t) (ids_text-push items item)
    ∙ sym (append_assoc (text_of_id first.id) (ids_text items) (text_of_id item.id))

ends_from-push : (start : ℕ) (items : List Item) (item : Item)
    → ends_from start (items ++ item ∷ []) ≡ ends_from start items
    ++ (start + length (ids_text items ++ text_of_id item.id)) ∷ []
ends_from-push start [] item = refl
ends_from-push start (first ∷ items) item =
    let t = text_of_id first.id in
    let u = ids_text items ++ text_of_id item.id in
    let size : (start + length t) + length u ≡ start + length ((t ++ ids_text items) ++ text_of_id item.id) =
    omega (arith, length-append t u, ap length (append_assoc t (ids_text items) (text_of_id item.id))) in
    ap (λ ends. (start + length t) ∷ ends) (ends_from-push (start + length t) items item
    ∙ ap (λ n. ends_from (start + length t) items ++ n ∷ []) size)

all_pushed : (items : List Item) (item : Item) → list_all is_of_bytes items ≡ true → is_of_bytes item ≡ true
    → list_all is_of_bytes (items ++ item ∷ []) ≡ true
all_pushed [] item e h = rw h refl
all_pushed (first ∷ items) item e h =
    let b = (and-eq-true_iff (is_of_bytes first) (list_all is_of_bytes items)).0 e in
    rw b.0 (all_pushed items item b.1 h)

-- what a playlist keeps of its items, their texts and their ends
pub record Keeps (text ends : List ℕ) (items : List Item) : Type 0 where
  pub text_is : text ≡ ids_text items
  pub ends_are : ends ≡ ends_from 0 items
  pub of_bytes : list_all is_of_bytes items ≡ true

pub pushed_keeps : (list : Playlist) (item : Item) (text ends : List ℕ) (items : List Item)
    → text ≡ list.text.items ++ text_of_id item.id → ends ≡ list.ends.items ++ length text ∷ []
    → items ≡ list.items.items ++ item ∷ [] → is_of_bytes item ≡ true → Keeps text ends items
pushed_keeps list item text ends items text_is ends_are items_are bytes =
    let whole : text ≡ ids_text list.items.items ++ text_of_id item.id =
    text_is ∙ ap (λ t. t ++ text_of_id item.id) list.text_is in
    rw items_are (record {
      text_is = whole ∙ sym (ids_text-push list.items.items item);
      ends_are = ends_are
          ∙ ap (λ es. es ++ length text ∷ []) list.ends_are
          ∙ ap (λ t. ends_from 0 list.items.items ++ length t ∷ []) whole
          ∙ ap (λ n. ends_from 0 list.items.items ++ n ∷ [])
          (sym (zero-add (length (ids_text list.items.items ++ text_of_id item.id))))
          ∙ sym (ends_from-push 0 list.items.items item);
      of_bytes = all_pushed list.items.items item list.of_bytes bytes;
    })

-- all texts together are ascii
ascii_ids : ((id : ClipId) → IsAscii (text_of_id id)) → (items : List Item) → IsAscii (ids_text items)
ascii_ids ascii [] = λ k. omega arith
ascii_ids ascii (item ∷ items) = IsAscii-append (text_of_id item.id) (ids_text items) (ascii item.id)
    (ascii_ids ascii items)

pub utf8_text : ((id : ClipId) → IsAscii (text_of_id id)) → (list : Playlist) → IsUtf8 list.text.items
utf8_text ascii list =
    subst IsUtf8 (sym list.text_is) (IsUtf8-from_ascii (ids_text list.items.items) (ascii_ids ascii list.items.items))
