-- The records are those of the state with the text.
use Rattle.std.proofs.Common.{◌<◌, List, ℕ, true, Option, Ok, sym, ap, ◌∙◌, subst, ◌≤◌, ◌+◌}
use Rattle.std.specs.Prelude.{All, IfSome, IsTrue}
use Rattle.mtn_changes.specs.declared.change.Edge.{Edge}
use Rattle.mtn_roster_deltas.specs.Numbering.{shown}
use Rattle.mtn_replay.specs.Lawful.{IsNext}
use Rattle.mtn_replay.specs.Making.{made}
use Rattle.mtn_model.specs.State.{Logged, State}
use Rattle.mtn_ports.specs.Kept.{with_all}
use Rattle.mtn_history.specs.Records.{with_revision}
use Rattle.mtn_history.specs.Rosters.{IsRebuilt}
use Rattle.mtn_history.specs.Stands.{IsDraft, IsFounded}
use Rattle.mtn_history.specs.declared.pending.Pending.{Pending}
use Rattle.mtn_history.proofs.Knowing.{told_back}
use Rattle.mtn_put_revision.specs.Keeping.{AreParents, IsFirstRebuilt, IsLogBodyOf, IsMade, IsNewRecord, IsRecordOn, with_text}
use Rattle.mtn_put_revision.specs.declared.keep.NewRecord.{NewRecord}
use Rattle.mtn_put_revision.proofs.Grounds.{moved}
use Rattle.mtn_put_revision.proofs.Putting.{kept_draft, new_rebuilt}
use Rattle.mtn_put_revision.proofs.keep.keep.Goals as goal

pub put_records-requires-clause-room : goal.put_records-requires-clause-room
put_records-requires-clause-room g c = moved (λ (x : Pending). x.count < 2147483648) c.args.draft.now.pending c.number_behind.new.draft.pending (sym c.in_ok-entries.ensures.pending) c.requires.room

pub put_records-requires-clause-below : goal.put_records-requires-clause-below
put_records-requires-clause-below g c =
    moved (λ (x : Pending). All (λ p. p < x.count) c.args.known.now.places.now) c.args.draft.now.pending c.number_behind.new.draft.pending (sym c.in_ok-entries.ensures.pending) c.requires.below

pub put_records-requires-clause-right : goal.put_records-requires-clause-right
put_records-requires-clause-right g c = λ log.
    let mid = g.K.Keeper.contents c.number_behind.new.draft.keeper.now in
    let p = c.args.draft.now.pending in
    let known = c.args.known.now in
    let r = c.in-Some.fresh in
    let l : Logged = record { id = c.args.id.0; text = c.args.text.now } in
    let said = subst (λ (o : Option NewRecord). IfSome o (IsNewRecord known.places.now (shown known.entries.now) known.depth c.in_ok-entries.entries c.args.roster c.count.result)) c.in-Some.is c.in_ok-fresh.ensures.record in
    moved (λ (x : Pending). IfSome mid (λ y. IsRebuilt (with_all y (with_revision x l log r.body).batch) x.count r.rebuilt.entries r.rebuilt.roster r.rebuilt.depth)) p c.number_behind.new.draft.pending (sym c.in_ok-entries.ensures.pending)
    (subst (λ t. IfSome mid (λ y. IsRebuilt (with_all y (with_revision p l log r.body).batch) p.count r.rebuilt.entries t r.rebuilt.depth)) (sym said.roster)
    (subst (λ es. IfSome mid (λ y. IsRebuilt (with_all y (with_revision p l log r.body).batch) p.count es c.args.roster r.rebuilt.depth)) (sym said.entries)
    (new_rebuilt mid p l log r.body known.places.now (shown known.entries.now) known.depth r.rebuilt.depth c.in_ok-entries.entries c.args.roster c.requires.room c.requires.below c.in_ok-entries.ensures.spells
    (subst (λ n. IsRecordOn known.places.now (shown known.entries.now) known.depth c.in_ok-entries.entries n r.body r.rebuilt.depth) c.count.ensures said.on)
    (told_back (g.K.Keeper.contents c.args.draft.now.keeper.now) mid (λ y. IsFirstRebuilt (with_all y p.batch) known.places.now (shown known.entries.now) known.depth) c.in_ok-entries.ensures.stays.same c.requires.first))))

pub returns-clause-kept : goal.returns-clause-kept
returns-clause-kept g c =
    let told = g.K.Keeper.contents c.number_behind.new.draft.keeper.now in
    let p = c.args.draft.now.pending in
    let known = c.args.known.now in
    let r = c.in-Some.fresh in
    let l : Logged = record { id = c.args.id.0; text = c.args.text.now } in
    let said = subst (λ (o : Option NewRecord). IfSome o (IsNewRecord known.places.now (shown known.entries.now) known.depth c.in_ok-entries.entries c.args.roster c.count.result)) c.in-Some.is c.in_ok-fresh.ensures.record in
    let put = c.in_ok-put_records.ensures.ok in
    subst (λ h. (f : List ℕ → List ℕ) (s : State) → (d : IsFounded f (g.K.Keeper.contents h.now) p s) → (edges : List Edge) → IsMade d.stands.history edges c.args.id c.args.roster →
    AreParents d.stands.history d.stands.kept edges known.places.now (shown known.entries.now) known.depth → IsNext f s.files d.stands.history l (made d.stands.history c.args.id edges) →
    IsTrue true → IsDraft f d.records c.put_records.new.draft.pending (with_text s l)) (sym c.put_records.ensures.keeper) (λ f s d edges made_is parents accepted kept.
    kept_draft f told p s d c.args.id c.args.text.now edges c.args.roster known.places.now (shown known.entries.now) known.depth c.in_ok-entries.free r.rebuilt.depth c.in_ok-entries.entries r.body put.0 c.put_records.new.draft.pending
    c.requires.room (c.in_ok-entries.ensures.numbered f s d)
    (subst (λ n. IsRecordOn known.places.now (shown known.entries.now) known.depth c.in_ok-entries.entries n r.body r.rebuilt.depth) c.count.ensures said.on)
    (subst (λ (q : Pending). IsLogBodyOf c.args.id c.in_ok-entries.free known.places.now q.count put.0) c.in_ok-entries.ensures.pending put.1)
    (put.2 ∙ ap (λ (q : Pending). with_revision q l put.0 r.body) c.in_ok-entries.ensures.pending)
    made_is parents accepted)

pub returns-in_default-clause-none : goal.returns-in_default-clause-none
returns-in_default-clause-none g c = λ same up h v next count.
    c.in_ok-fresh.ensures.none (ap Ok c.in_default.is) (subst (λ n. All (λ p. p < n) c.args.known.now.places.now) (sym c.count.ensures) c.requires.below) up
    h v c.args.roster next c.in_ok-entries.ensures.spells (count ∙ sym c.count.ensures) (subst (λ n. n < 2147483648) (sym c.count.ensures) c.requires.room)

pub returns-in_err-put_records-clause-reads : goal.returns-in_err-put_records-clause-reads
returns-in_err-put_records-clause-reads g c =
    subst (λ h. (f : List ℕ → List ℕ) (s : State) → IsFounded f (g.K.Keeper.contents h.now) c.args.draft.now.pending s → g.K.Keeper.reads h.now ≤ g.K.Keeper.reads c.args.draft.now.keeper.now + 1) (sym c.put_records.ensures.keeper) (λ f s d. c.in_ok-entries.ensures.reads f s d)

pub returns-clause-reads : goal.returns-clause-reads
returns-clause-reads g c =
    subst (λ h. (f : List ℕ → List ℕ) (s : State) → IsFounded f (g.K.Keeper.contents h.now) c.args.draft.now.pending s → g.K.Keeper.reads h.now ≤ g.K.Keeper.reads c.args.draft.now.keeper.now + 1) (sym c.put_records.ensures.keeper) (λ f s d. c.in_ok-entries.ensures.reads f s d)
