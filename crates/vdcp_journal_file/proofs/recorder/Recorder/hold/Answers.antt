use Rattle.std.proofs.Common.{◌≡◌, ◌∙◌, ap, append-nil, false, refl, subst, sym, true}
use Rattle.vdcp_journal_file.proofs.Chains.{makes_nothing}
use Rattle.vdcp_journal_file.proofs.Held.{held_back}
use Rattle.vdcp_journal_file.proofs.recorder.Recorder.hold.Goals as goal
use Rattle.vdcp_journal_file.proofs.recorder.Recorder.hold.Goals.{then-not-says_nothing_new+in_ok-write, else-not-says_nothing_new}
use Rattle.vdcp_journal_file.specs.Recording.{Recording, rows_left, says_nothing_new, seen_last}
use Rattle.vdcp_journal_file.specs.declared.pending.Pending.TheVariants.{Asked}

pub returns-clause-kept : goal.returns-clause-kept
returns-clause-kept g c =
    let safe = g.F.Disk.safe in
    let row = c.args.row in
    let old : Recording _ = c.args.self.now in
    let last = c.seen_last-last.result in
    let is = subst (λ (r : Recording _). last ≡ seen_last r.pending) c.self.view_is c.seen_last-last.ensures in
    let told = sym (subst (λ (r : Recording _). c.says_nothing_new.result ≡ says_nothing_new r.pending row.note)
    c.self.view_is c.says_nothing_new.ensures) in
    let made = λ (mid : Recording _) (at : c.if-not-says_nothing_new.self ≡ mid).
    ap (λ (r : Recording _). record r { pending = Asked last row }) (c.self-2.view_is ∙ at) in
    elim c.if-not-says_nothing_new.branch [
      | then-not-says_nothing_new+in_ok-write w ↦
          held_back safe old w.write.new.self _ row _ last false c.requires.asks is (told ∙ w.if-not-says_nothing_new.true)
          w.in_ok-write.ensures.rest (made _ w.self-is)
          (rw (append-nil (rows_left old.pending)) at w.in_ok-write.ensures.written)
      | else-not-says_nothing_new w ↦
          held_back safe old old _ row _ last true c.requires.asks is (told ∙ w.if-not-says_nothing_new.false) refl
          (made _ w.self-is) (makes_nothing safe old old refl)
    ]
