-- How a server hears what comes: as bursts, each ended by a silence, or as one stream.
use Rattle.std.specs.Prelude.{ℕ, ◌≡◌, List, [], ◌∷◌, ◌++◌, length, drop}
use Rattle.vdcp_frame.specs.Burst.{messages_of, end_of}
use Rattle.vdcp_frame.specs.Message.{Content, AreOctets}
use Rattle.vdcp_frame.specs.Progress.{Progress}
use Rattle.vdcp_frame.specs.Reader.{Follows}
use Rattle.vdcp_words.specs.declared.reply.Reply.{Reply}
use Rattle.vdcp_words.specs.declared.reply.Reply.TheVariants.{Nak}
use Rattle.vdcp_port.specs.Answers.{end_answers}
use Rattle.vdcp_port.specs.Clock.{ClockedPort, after_frame}
use Rattle.vdcp_drive.specs.Reading as stream
use Rattle.vdcp_drive.specs.Reading.{Held, holds, skips, held_after, held_after_silence, held_by, IsAfoot}
use Rattle.vdcp_drive.specs.declared.hearing.Hearing.{Hearing}
use Rattle.vdcp_drive.specs.declared.hearing.Hearing.TheVariants.{AtSilences, AtOnce}

-- what a server has taken: at silences the burst so far, and at once what is held of a message
pub data ServerEar : Type 0 where
  in_burst : (burst : List ℕ) → ServerEar
  in_stream : (held : Held) → ServerEar

abbrev pub new_ear : Hearing → ServerEar
new_ear AtSilences = in_burst []
new_ear AtOnce = in_stream (holds [])

-- the messages that more bytes complete
abbrev pub completed : List ℕ → List ℕ → List Content
completed burst piece = drop (length (messages_of burst)) (messages_of (burst ++ piece))

abbrev pub completes : ServerEar → List ℕ → List Content
completes (in_burst burst) piece = completed burst piece
completes (in_stream held) piece = stream.completed held piece

abbrev pub takes : ServerEar → List ℕ → ServerEar
takes (in_burst burst) piece = in_burst (burst ++ piece)
takes (in_stream held) piece = in_stream (held_after held piece)

-- what a silence is answered: the end of a burst; in a stream nothing but a fault
abbrev pub says : ServerEar → List Reply
says (in_burst burst) = end_answers (end_of burst)
says (in_stream (holds held)) = []
says (in_stream skips) = Nak 0x04 ∷ []

abbrev pub rests : ServerEar → ServerEar
rests (in_burst burst) = in_burst []
rests (in_stream held) = in_stream (held_after_silence held)

-- a frame passes at a silence that ends a burst
abbrev pub after_rest : ServerEar → ClockedPort → ClockedPort
after_rest (in_burst burst) port = after_frame port
after_rest (in_stream held) port = port

-- a reader is at the end of this burst so far
pub record HasFollowed (burst : List ℕ) (reader : Progress) : Type 0 where
  pub octets : AreOctets burst
  pub follows : Follows burst (messages_of burst) reader

pub record HasHeld (held : Held) (reader : Progress) : Type 0 where
  pub is : held ≡ held_by reader
  pub afoot : IsAfoot reader

abbrev pub HasRead : Hearing → ServerEar → Progress → Type 0
HasRead AtSilences (in_burst burst) reader = HasFollowed burst reader
HasRead AtSilences (in_stream held) reader = ⊥
HasRead AtOnce (in_burst burst) reader = ⊥
HasRead AtOnce (in_stream held) reader = HasHeld held reader
