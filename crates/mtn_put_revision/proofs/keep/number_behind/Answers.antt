-- The numbers behind those that the log has given.
use Rattle.std.proofs.Common.{◌+◌, ◌≡◌, refl, sym, subst, length}
use Rattle.std.specs.Prelude.{IfSome}
use Rattle.mtn_roster_deltas.specs.Numbering.{fresh, shown, AreKnown, IsNumbering}
use Rattle.mtn_ports.specs.Kept.{with_all}
use Rattle.mtn_ports.proofs.KeptLemmas.{stays_trans}
use Rattle.mtn_history.specs.Errors.{IfDamage}
use Rattle.mtn_history.proofs.Founding.{back}
use Rattle.mtn_history.specs.declared.pending.Pending.{Pending}
use Rattle.mtn_put_revision.specs.Finding.{IsFound, IsUnfounded}
use Rattle.mtn_put_revision.proofs.Grounds.{moved}
use Rattle.mtn_put_revision.proofs.Numbers.{parents_known}
use Rattle.mtn_put_revision.proofs.keep.number_behind.Goals as goal

pub returns-in-Err-Clash-clause-stays : goal.returns-in-Err-Clash-clause-stays
returns-in-Err-Clash-clause-stays g c = stays_trans g.K.Keeper.contents g.K.Keeper.leaves g.K.Keeper.faults _ _ _ c.in_ok-next.ensures.stays c.unfit.ensures.stays

pub returns-in-Err-Clash-clause-damaged : goal.returns-in-Err-Clash-clause-damaged
returns-in-Err-Clash-clause-damaged g c =
    let told = g.K.Keeper.contents c.unfit.new.draft.keeper.now in
    let mid = g.K.Keeper.contents c.next_number.new.draft.keeper.now in
    let p = c.args.draft.now.pending in
    let q = c.next_number.new.draft.pending in
    let known = shown c.args.known.now.entries.now in
    moved (λ (x : Pending). IfSome told (λ y. IfDamage c.unfit.result (IsFound told x (with_all y x.batch)))) q p c.in_ok-next.ensures.pending
    (c.unfit.ensures.damaged (moved (λ (x : Pending). IsUnfounded mid x) p q (sym c.in_ok-next.ensures.pending) (λ f s d.
    let are = parents_known f s.files s.log d.stands.history d.stands.kept d.stands.spelled d.stands.revisions c.args.known.now.places.now known
    (c.requires.parents f s (back f (g.K.Keeper.contents c.args.draft.now.keeper.now) mid p s c.in_ok-next.ensures.stays.same d)) in
    (rw c.in-Err-Clash.field-0-is at c.in-Err-Clash.ensures.clash) refl (subst (AreKnown known) (sym (c.in_ok-next.ensures.next f s d)) are))))

pub returns-in-Err-Clash-clause-reads : goal.returns-in-Err-Clash-clause-reads
returns-in-Err-Clash-clause-reads g c = λ f s d.
    let mid = g.K.Keeper.contents c.next_number.new.draft.keeper.now in
    let p = c.args.draft.now.pending in
    let known = shown c.args.known.now.entries.now in
    let b = back f mid (g.K.Keeper.contents c.unfit.new.draft.keeper.now) p s c.unfit.ensures.stays.same d in
    let are = parents_known f s.files s.log b.stands.history b.stands.kept b.stands.spelled b.stands.revisions c.args.known.now.places.now known
    (c.requires.parents f s (back f (g.K.Keeper.contents c.args.draft.now.keeper.now) mid p s c.in_ok-next.ensures.stays.same b)) in
    absurd ((rw c.in-Err-Clash.field-0-is at c.in-Err-Clash.ensures.clash) refl (subst (AreKnown known) (sym (c.in_ok-next.ensures.next f s b)) are))

pub returns-in-Ok-clause-numbered : goal.returns-in-Ok-clause-numbered
returns-in-Ok-clause-numbered g c = λ f s d.
    let known = shown c.args.known.now.entries.now in
    let t = c.args.roster.now in
    let is = c.in_ok-next.ensures.next f s d in
    record {
      numbers = subst (λ n. AreKnown known n → IsNumbering known n t c.in-Ok.numbers.0) is c.in-Ok.ensures.numbers;
      next = subst (λ n. AreKnown known n → c.in-Ok.numbers.1 ≡ n + length (fresh known t.tree)) is c.in-Ok.ensures.next;
    }
