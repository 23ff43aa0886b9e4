-- One wait for the pace after others is one wait.
use Rattle.std.proofs.Common.{◌≡◌, ◌<◌, ap, ap₂, arith, refl, subst, ◌∙◌, ℕ}
use Rattle.std.specs.Prelude.{None, Option}
use Rattle.vdcp_operator.specs.Polls.{IsDue, Paces, due_after}
use Rattle.vdcp_operator.specs.declared.polling.Polling.{Polling}
use Rattle.vdcp_words.specs.declared.command.Command.{Command}

pub paces_nothing : {R : Type 0} (a : Polling R) → Paces None a a
paces_nothing a = record {
  waits = λ some. tt;
  due = λ some. refl;
  least = refl;
  later = omega arith;
  unpaced = λ none undue. refl;
}

pub paces_on : {R : Type 0} (command : Option Command) (a b c : Polling R) → Paces None a b → Paces command b c → Paces command a c
paces_on command a b c h g = record {
  waits = λ some.
      let least : 0 < b.least = omega (arith, h.least, some) in
      subst (λ (due : ℕ). IsDue command due c.stopwatch.now) (h.due some) (g.waits least);
  due = λ some.
      let least : 0 < b.least = omega (arith, h.least, some) in
      g.due least ∙ ap₂ (λ (n due : ℕ). due_after command n due c.stopwatch.now) h.least (h.due some);
  least = g.least ∙ h.least;
  later = omega (arith, h.later, g.later);
  unpaced = λ none undue.
      let same : b ≡ a = h.unpaced none undue in
      g.unpaced (h.least ∙ none) (ap (λ (p : Polling _). p.due) same ∙ undue) ∙ same;
}
