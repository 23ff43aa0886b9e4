-- What a wire brought, and the bytes of it that are held.
use Rattle.std.specs.Prelude.{ℕ, ◌<◌, List, length}
use Rattle.vdcp_lossy.specs.declared.session.Brought.{Brought}
use Rattle.vdcp_lossy.specs.declared.session.Brought.TheVariants as brought

-- a burst has bytes
abbrev pub HasSome : Brought → List ℕ → Type 0
HasSome (brought.Burst began) held = 0 < length held
HasSome brought.Long held = Unit {0}
HasSome brought.Nothing held = Unit {0}
HasSome (brought.Over end) held = Unit {0}
