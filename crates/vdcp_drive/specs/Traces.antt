-- What the steps of a run come to.
use Rattle.std.specs.List.{flat_map}
use Rattle.std.specs.Option.{option_to_list}
use Rattle.std.specs.Prelude.{ℕ, List, [], ◌∷◌, ◌++◌, map}
use Rattle.vdcp_words.specs.declared.command.Command.{Command}
use Rattle.vdcp_auto.specs.Plan.{Plan}
use Rattle.vdcp_auto.specs.State.{State}
use Rattle.vdcp_auto.specs.Turn.{awaited}
use Rattle.vdcp_auto.specs.declared.exchange.Exchange.{Exchange}
use Rattle.vdcp_wire.specs.Wires.{Arrival, bytes, silence, close}
use Rattle.vdcp_wire.specs.Acts.{Act, sends, brings, drops, fails}
use Rattle.vdcp_drive.specs.Steps.{Step, acts, asks, keeps, misses, command_bytes, end_of}
use Rattle.vdcp_drive.specs.declared.hooks.Kept.{Kept}
use Rattle.vdcp_drive.specs.declared.hooks.Kept.TheVariants as row

-- those of the wire, and the rows of the keep
abbrev pub acts_in : List Step → List Act
acts_in [] = []
acts_in (acts a ∷ later) = a ∷ acts_in later
acts_in (asks s n ∷ later) = acts_in later
acts_in (keeps r ∷ later) = acts_in later
acts_in (misses c ∷ later) = acts_in later

abbrev pub kept_in : List Step → List Kept
kept_in [] = []
kept_in (acts a ∷ later) = kept_in later
kept_in (asks s n ∷ later) = kept_in later
kept_in (keeps r ∷ later) = r ∷ kept_in later
kept_in (misses c ∷ later) = kept_in later

-- what went out, what came, and how many bytes had gone out before each drop, if n had gone out before
abbrev pub sent_in : List Act → List ℕ
sent_in [] = []
sent_in (sends b ∷ later) = b ++ sent_in later
sent_in (brings what ∷ later) = sent_in later
sent_in (drops ∷ later) = sent_in later
sent_in (fails ∷ later) = sent_in later

abbrev pub came_in : List Act → List Arrival
came_in [] = []
came_in (sends b ∷ later) = came_in later
came_in (brings what ∷ later) = what ∷ came_in later
came_in (drops ∷ later) = came_in later
came_in (fails ∷ later) = came_in later

-- the commands of rows
abbrev pub commands_kept : List Kept → List Command
commands_kept [] = []
commands_kept (row.Sent c ∷ later) = c ∷ commands_kept later
commands_kept (row.Heard h ∷ later) = commands_kept later
commands_kept (row.Silence ∷ later) = commands_kept later
commands_kept (row.Called c ∷ later) = commands_kept later

-- the rows of exchanges alone
abbrev pub exchanged : List Kept → List Kept
exchanged [] = []
exchanged (row.Sent c ∷ later) = row.Sent c ∷ exchanged later
exchanged (row.Heard h ∷ later) = row.Heard h ∷ exchanged later
exchanged (row.Silence ∷ later) = row.Silence ∷ exchanged later
exchanged (row.Called c ∷ later) = exchanged later

abbrev pub bytes_of : ℕ → List Command → List ℕ
bytes_of unit commands = flat_map (command_bytes unit) commands

-- the rows of whole exchanges, and of a command that is awaited
abbrev pub kept_of : List Exchange → List Kept
kept_of log = flat_map (λ e. row.Sent e.command ∷ end_of e.heard ∷ []) log

abbrev pub awaited_notes : Plan → State → List Kept
awaited_notes plan state = map row.Sent (option_to_list (awaited plan state))

-- nothing comes after a close
abbrev pub until_close : List Arrival → List Arrival
until_close [] = []
until_close (bytes piece ∷ later) = bytes piece ∷ until_close later
until_close (silence ∷ later) = silence ∷ until_close later
until_close (close ∷ later) = close ∷ []
