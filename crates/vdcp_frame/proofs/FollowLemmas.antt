-- What a reader has followed is read, here and whatever follows.
use Rattle.std.proofs.Common.{ℕ, ◌≡◌, List, [], ◌++◌, length, sym, ap, subst, ◌∙◌, append_assoc, append-nil, length-append, arith}
use Rattle.vdcp_frame.specs.declared.got.Ended.{Ended}
use Rattle.vdcp_frame.specs.declared.got.Ended.TheVariants as ended
use Rattle.vdcp_frame.specs.Message.{Content, AreOctets}
use Rattle.vdcp_frame.specs.Progress.{Progress, reading, failed}
use Rattle.vdcp_frame.specs.Reader.{Answer, message, more, wrong, Follows, FollowsNext, ReadsAs, IsEnd, ended_of}
use Rattle.vdcp_frame.specs.Reading.{Reads, End, clean, cut, fault}
use Rattle.vdcp_frame.specs.Burst.{messages_of, end_of}
use Rattle.vdcp_frame.specs.Pieces.{with_message}
use Rattle.vdcp_frame.proofs.BurstLemmas.{reads_computed}
use Rattle.vdcp_frame.proofs.ReaderLemmas.{silence_reads}
use Rattle.vdcp_frame.proofs.ReadingLemmas.{read_again, one_reading}
use Rattle.vdcp_frame.proofs.SpellingLemmas.{reads_as_computed}

pub next_followed : (burst : List ℕ) (ms : List Content) (answer : Answer) (new : Progress)
    → FollowsNext burst ms answer new →
    Follows burst (ms ++ with_message answer []) new
next_followed burst ms (message m) new f = f
next_followed burst ms more new f = subst (λ (l : List Content). Follows burst l new) (sym (append-nil ms)) f
next_followed burst ms (wrong which place) new f =
    let there : Follows burst ms failed = (which, place, f.0) in
    subst (λ (l : List Content). Follows burst l new) (sym (append-nil ms)) (subst (Follows burst ms) (sym f.1) there)

pub followed_first : (burst later : List ℕ) (ms ns : List Content) (p : Progress) (end : End) → Follows burst ms p
    → Reads (burst ++ later) ns end →
    (others : List Content) × (ns ≡ ms ++ others)
followed_first burst later ms ns (reading taken held) end f r =
    read_again 4096 ms ns f.whole (held ++ later) end f.spelt
    (omega (arith, f.limit, f.count, ap length f.parts, length-append f.whole held))
    (subst (λ (l : List ℕ). Reads l ns end) (ap (λ (l : List ℕ). l ++ later) f.parts
    ∙ append_assoc f.whole held later) r)
followed_first burst later ms ns failed end f r =
    ([], (one_reading 4096 (burst ++ later) ns ms end (fault f.0 f.1) r (f.2 later)).0 ∙ sym (append-nil ms))

pub followed_further : (burst later : List ℕ) (ms : List Content) (p : Progress) → AreOctets (burst ++ later)
    → Follows burst ms p →
    (others : List Content) × (messages_of (burst ++ later) ≡ ms ++ others)
followed_further burst later ms p octets f =
    followed_first burst later ms (messages_of (burst ++ later)) p (end_of (burst ++ later)) f
    (reads_computed 4096 (burst ++ later) octets)

pub told_messages : (burst : List ℕ) (ms : List Content) (e : Ended) → AreOctets burst → ReadsAs burst ms e
    → ms ≡ messages_of burst
told_messages burst ms ended.Clean octets r = (reads_as_computed burst ms clean octets r).0
told_messages burst ms (ended.Cut count) octets r = (reads_as_computed burst ms (cut count) octets r).0
told_messages burst ms ended.AfterFault octets r = (reads_as_computed burst ms (fault r.0 r.1) octets r.2).0

pub told_end : (burst : List ℕ) (ms : List Content) (e : Ended) → AreOctets burst → ReadsAs burst ms e
    → IsEnd e (end_of burst)
told_end burst ms ended.Clean octets r = sym (reads_as_computed burst ms clean octets r).1
told_end burst ms (ended.Cut count) octets r = sym (reads_as_computed burst ms (cut count) octets r).1
told_end burst ms ended.AfterFault octets r = (r.0, r.1, sym (reads_as_computed burst ms (fault r.0 r.1) octets r.2).1)

pub followed_messages : (burst : List ℕ) (ms : List Content) (p : Progress) → AreOctets burst → Follows burst ms p
    → ms ≡ messages_of burst
followed_messages burst ms p octets f = told_messages burst ms (ended_of p) octets (silence_reads burst ms p f)

pub followed_end : (burst : List ℕ) (ms : List Content) (p : Progress) → AreOctets burst → Follows burst ms p
    → IsEnd (ended_of p) (end_of burst)
followed_end burst ms p octets f = told_end burst ms (ended_of p) octets (silence_reads burst ms p f)
