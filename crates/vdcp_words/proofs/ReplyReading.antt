-- What is computed of a message as a reply is what the table of replies says.
use Rattle.std.proofs.Common.{◌≡◌, ◌≢◌, inl, inr, ℕ, ◌<◌, bit_and, Bool, true, false, cond, List, [], ◌∷◌, length, take, refl, sym, arith}
use Rattle.std.specs.Prelude.{All, Some, None, Ok}
use Rattle.std.proofs.lemmas.Bool.{cases_eq, cases_lt, ne_eqb, lt-ltb, le-ltb, eqb-true}
use Rattle.std.proofs.lemmas.List.{length-take}
use Rattle.std.proofs.lemmas.List.Elements.{All-tail, All-take}
use Rattle.vdcp_value.specs.Bytes.{are_bytes}
use Rattle.vdcp_value.specs.Ids.{id_of}
use Rattle.vdcp_words.specs.LawsBelow.{ValueLaws}
use Rattle.vdcp_frame.specs.Message.{Content, ack, nak, framed}
use Rattle.vdcp_words.specs.declared.reply.Reply.{Reply}
use Rattle.vdcp_words.specs.declared.reply.Reply.TheVariants.{Ack, Nak, Opened, State, Active, Present, Size}
use Rattle.vdcp_words.specs.Messages.{rest_of, SameCode}
use Rattle.vdcp_words.specs.Replies.{has_bit_0, reply_message, ReadsReply}
use Rattle.vdcp_words.specs.Computed.{with_id, opened_of, state_byte_of, state_of, active_of, size_of, present_of, sense_reply_of, reply_of}
use Rattle.vdcp_words.proofs.CommandReading.{not_eight}
use Rattle.vdcp_words.proofs.ReplyLemmas.{opened_short, state_short, state_byte_short, active_short, active_id_short, size_short, present_short}

opened_reads : (unit : ℕ) (rest : List ℕ) → ReadsReply (framed 3 unit 0x81 rest) (opened_of rest)
opened_reads unit [] = opened_short unit [] refl
opened_reads unit (first ∷ more) = ((refl, refl), refl)

state_byte_reads : (unit bitmap : ℕ) (more : List ℕ) → has_bit_0 bitmap ≡ true →
    ReadsReply (framed 3 unit 0x85 (bitmap ∷ more)) (state_byte_of bitmap more)
state_byte_reads unit bitmap [] set =
    state_byte_short unit (bitmap ∷ []) (omega arith) (eqb-true (bit_and bitmap 1) 1 set)
state_byte_reads unit bitmap (byte ∷ more) set = ((refl, refl), (refl, set, refl))

state_when : (unit bitmap : ℕ) (more : List ℕ) (test : Bool) → has_bit_0 bitmap ≡ test →
    ReadsReply (framed 3 unit 0x85 (bitmap ∷ more)) (cond test (state_byte_of bitmap more) (Ok (State bitmap None)))
state_when unit bitmap more true set = state_byte_reads unit bitmap more set
state_when unit bitmap more false clear = ((refl, refl), (refl, clear))

state_reads : (unit : ℕ) (rest : List ℕ) → ReadsReply (framed 3 unit 0x85 rest) (state_of rest)
state_reads unit [] = state_short unit [] refl
state_reads unit (bitmap ∷ more) = state_when unit bitmap more (has_bit_0 bitmap) refl

id_reads : ValueLaws → (unit first : ℕ) (more : List ℕ) → first ≢ 0 → All (λ b. b < 256) more →
    (test : Bool) → are_bytes 8 (take 8 more) ≡ test →
    ReadsReply (framed 3 unit 0x87 (first ∷ more))
    (with_id (λ id. Active (Some id)) (cond test (Some (id_of (take 8 more))) None))
id_reads v unit first more other fits true e = ((refl, refl), (other, v.of_bytes (take 8 more) e))
id_reads v unit first more other fits false e =
    let short : length more < 8 =
    elim (cases_lt (length more) 8) [
      | inl lt ↦ lt
      | inr le ↦ absurd (not_eight v (take 8 more) (All-take (λ b. b < 256) 8 more fits) e
          (omega (arith, length-take 8 more)))
    ] in
    active_id_short unit first more other short

active_reads : ValueLaws → (unit : ℕ) (rest : List ℕ) → All (λ b. b < 256) rest →
    ReadsReply (framed 3 unit 0x87 rest) (active_of rest)
active_reads v unit [] fits = active_short unit [] refl
active_reads v unit (first ∷ more) fits =
    elim (cases_eq first 0) [
      | inl is ↦ rw is ((refl, refl), refl)
      | inr other ↦ rw (ne_eqb _ _ other)
          (id_reads v unit first more other (All-tail (λ b. b < 256) first more fits) (are_bytes 8 (take 8 more)) refl)
    ]

size_reads : (unit : ℕ) (rest : List ℕ) → ReadsReply (framed 3 unit 0x94 rest) (size_of rest)
size_reads unit rest =
    elim (cases_lt (length rest) 4) [
      | inl lt ↦ rw (lt-ltb _ _ lt) (size_short unit rest lt)
      | inr le ↦ rw (le-ltb _ _ le) ((refl, refl), (le, refl))
    ]

present_reads : (unit : ℕ) (rest : List ℕ) → ReadsReply (framed 3 unit 0x96 rest) (present_of rest)
present_reads unit [] = present_short unit [] refl
present_reads unit (first ∷ more) = ((refl, refl), refl)

-- no reply has the code
no_reply : (unit code : ℕ) (rest : List ℕ) → code ≢ 0x81 → code ≢ 0x85 → code ≢ 0x87 → code ≢ 0x94 →
    code ≢ 0x96 → (r : Reply) → SameCode (framed 3 unit code rest) (reply_message 0 r) → ⊥
no_reply unit code rest opened state active size present Ack h = h
no_reply unit code rest opened state active size present (Nak byte) h = h
no_reply unit code rest opened state active size present (Opened granted) h = opened (sym h.1)
no_reply unit code rest opened state active size present (State bitmap None) h = state (sym h.1)
no_reply unit code rest opened state active size present (State bitmap (Some byte)) h = state (sym h.1)
no_reply unit code rest opened state active size present (Active None) h = active (sym h.1)
no_reply unit code rest opened state active size present (Active (Some id)) h = active (sym h.1)
no_reply unit code rest opened state active size present (Size time) h = size (sym h.1)
no_reply unit code rest opened state active size present (Present there) h = present (sym h.1)

no_type : (kind unit code : ℕ) (rest : List ℕ) → kind ≢ 3 → (r : Reply) →
    SameCode (framed kind unit code rest) (reply_message 0 r) → ⊥
no_type kind unit code rest other Ack h = h
no_type kind unit code rest other (Nak byte) h = h
no_type kind unit code rest other (State bitmap None) h = other (sym h.0)
no_type kind unit code rest other (Active None) h = other (sym h.0)
no_type kind unit code rest other reply h = other (sym h.0)

sense_reply_reads : ValueLaws → (unit code : ℕ) (rest : List ℕ) → All (λ b. b < 256) rest →
    ReadsReply (framed 3 unit code rest) (sense_reply_of code rest)
sense_reply_reads v unit code rest fits =
    elim (cases_eq code 0x81) [
      | inl is ↦ rw is (opened_reads unit rest)
      | inr no_opened ↦ elim (cases_eq code 0x85) [
        | inl is ↦ rw is (state_reads unit rest)
        | inr no_state ↦ elim (cases_eq code 0x87) [
          | inl is ↦ rw is (active_reads v unit rest fits)
          | inr no_active ↦ elim (cases_eq code 0x94) [
            | inl is ↦ rw is (size_reads unit rest)
            | inr no_size ↦ elim (cases_eq code 0x96) [
              | inl is ↦ rw is (present_reads unit rest)
              | inr no_present ↦ rw (
                ne_eqb _ _ no_opened,
                ne_eqb _ _ no_state,
                ne_eqb _ _ no_active,
                ne_eqb _ _ no_size,
                ne_eqb _ _
                    no_present,
              )
                  (record {
                    is_framed = tt;
                    no_code =
                        no_reply unit code rest no_opened no_state no_active no_size no_present;
                  })
            ]
          ]
        ]
      ]
    ]

framed_reads : ValueLaws → (kind unit code : ℕ) (rest : List ℕ) → All (λ b. b < 256) rest →
    ReadsReply (framed kind unit code rest) (reply_of (framed kind unit code rest))
framed_reads v kind unit code rest fits =
    elim (cases_eq kind 3) [
      | inl is ↦ rw is (sense_reply_reads v unit code rest fits)
      | inr other ↦ rw (ne_eqb _ _ other) (record { is_framed = tt; no_code = no_type kind unit code rest other })
    ]

-- what is computed of a message whose data is of bytes is what the table says
pub reply_computed : ValueLaws → (m : Content) → All (λ b. b < 256) (rest_of m) → ReadsReply m (reply_of m)
reply_computed v ack fits = refl
reply_computed v (nak byte) fits = refl
reply_computed v (framed kind unit code rest) fits = framed_reads v kind unit code rest fits
