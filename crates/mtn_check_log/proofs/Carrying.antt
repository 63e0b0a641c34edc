-- What is remembered of records that stand for a state is true of all that do.
use Rattle.std.specs.List.{flat_map}
use Rattle.std.specs.FinMap.{get}
use Rattle.std.specs.Prelude.{MatchOption}
use Rattle.std.proofs.Common.{◌≡◌, ◌<◌, ℕ, Bool, true, false, List, [], ◌∷◌, ◌++◌, length, Option, Some, None, refl, sym, ap, ◌∙◌, subst, slice_get, arith}
use Rattle.mtn_ancestry.specs.Log.{list_of}
use Rattle.mtn_history_laws.specs.History.{Revision}
use Rattle.mtn_model.specs.State.{State}
use Rattle.mtn_model.specs.Table.{Contents, body_at}
use Rattle.mtn_records.specs.Fields.{id_text, number_text}
use Rattle.mtn_records.specs.Records.{byte_text, roster_text}
use Rattle.mtn_records.specs.declared.record.LogRecord.{LogRecord}
use Rattle.mtn_records.specs.declared.record.RosterRecord.{RosterRecord}
use Rattle.mtn_records.specs.declared.record.RosterRecord.TheVariants.{Whole, Delta}
use Rattle.mtn_replay.proofs.Places.{within}
use Rattle.mtn_history.specs.Cache.{AreRecalled}
use Rattle.mtn_history.specs.Logs.{IsLogged}
use Rattle.mtn_history.specs.Memory.{Knows}
use Rattle.mtn_history.specs.Meta.{Counted, IsMetaOf, count_key, version_key}
use Rattle.mtn_history.specs.Revisions.{Kept, IsLogBody, IsRosterBody}
use Rattle.mtn_history.specs.Rosters.{IsChainDown, IsRostered, Rebuilds}
use Rattle.mtn_history.specs.Stands.{StandsFor}
use Rattle.mtn_history.specs.declared.cache.Cache.{Cache}
use Rattle.mtn_history.specs.declared.memory.Memory.{Memory}
use Rattle.mtn_history.specs.declared.meta.Meta.{Meta}
use Rattle.mtn_history.specs.Remembered.{RebuiltRoster}
use Rattle.mtn_check_laws.specs.Fronts.{StandsTo}
use Rattle.mtn_check_laws.proofs.Cutting.{stands_walk}
use Rattle.mtn_check_laws.proofs.Due.{one_due}
use Rattle.mtn_check_laws.proofs.Sound.{front, to_end}
use Rattle.mtn_check_laws.proofs.Walks.{one_body}
use Rattle.mtn_check_log.proofs.Accepted.{same_fronts}

-- a revision has one record of the log, and one of its roster
one_log_body : (q : ℕ) (v : Revision) (k : Kept) (x y : List ℕ) → IsLogBody q v k x → IsLogBody q v k y → x ≡ y
one_log_body q v k x y a b =
    let parents : list_of a.parents ≡ list_of b.parents = a.same ∙ sym b.same in
    a.text.whole ∙ (λ i. id_text v.id ++ (number_text k.next ++ (byte_text (length (parents i)) ++ flat_map number_text (parents i)))) ∙ sym b.text.whole

one_roster_body : (ks : List Kept) (q : ℕ) (v : Revision) (k : Kept) (x y : List ℕ) → IsRosterBody ks q v k x → IsRosterBody ks q v k y → x ≡ y
one_roster_body ks q v k x y a b = a.text.whole ∙ ap roster_text (one_due ks v.parents k a.roster b.roster a.is b.is) ∙ sym b.text.whole

module _ (f : List ℕ → List ℕ) (a b : Contents) (s : State) (first : StandsFor f a s) (second : StandsFor f b s) where
  same_front : front f a s first ≡ front f b s second
  same_front =
      same_fronts f a b (first.base.files ∙ sym second.base.files) (length s.log) (front f a s first) (front f b s second)
      (stands_walk f a (length s.log) (front f a s first) (to_end f a s first)) (stands_walk f b (length s.log) (front f b s second) (to_end f b s second)) refl

  to_other : StandsTo f b (length s.log) (front f a s first)
  to_other = subst (StandsTo f b (length s.log)) (sym same_front) (to_end f b s second)

  kept_at : (q : ℕ) → q < length first.base.history → (v : Revision) × (k : Kept) × (slice_get first.base.history q ≡ Some v) × (slice_get first.base.kept q ≡ Some k)
  kept_at q lt =
      let v = within first.base.history q lt in
      let k = within first.base.kept q (omega (arith, lt, first.base.revisions.long)) in
      (v.0, k.0, v.1, k.1)

  log_too : (key body : List ℕ) → body_at a 4 key ≡ Some body → body_at b 4 key ≡ Some body
  log_too key body held =
      let o = first.base.log.only key body held in
      let at = kept_at o.0 o.1 in
      let x = first.base.log.each o.0 at.0 at.1 at.2 at.3 in
      let y = to_other.log o.0 at.0 at.1 at.2 at.3 in
      let same : body ≡ x.0 = one_body (body_at a 4 key) body x.0 held (ap (body_at a 4) o.2 ∙ x.1) in
      ap (body_at b 4) o.2 ∙ y.1 ∙ ap Some (one_log_body o.0 at.0 at.1 y.0 x.0 y.2 x.2 ∙ sym same)

  roster_too : (key body : List ℕ) → body_at a 5 key ≡ Some body → body_at b 5 key ≡ Some body
  roster_too key body held =
      let o = first.base.rosters.only key body held in
      let at = kept_at o.0 o.1 in
      let x = first.base.rosters.each o.0 at.0 at.1 at.2 at.3 in
      let y = to_other.rosters o.0 at.0 at.1 at.2 at.3 in
      let same : body ≡ x.0 = one_body (body_at a 5 key) body x.0 held (ap (body_at a 5) o.2 ∙ x.1) in
      ap (body_at b 5) o.2 ∙ y.1 ∙ ap Some (one_roster_body first.base.kept o.0 at.0 at.1 y.0 x.0 y.2 x.2 ∙ sym same)

  logged_too : (q : ℕ) (l : LogRecord) → IsLogged a q l → IsLogged b q l
  logged_too q l is = record { body = is.body; held = log_too (number_text q) is.body is.held; text = is.text }

  rostered_too : (q : ℕ) (r : RosterRecord) → IsRostered a q r → IsRostered b q r
  rostered_too q r is = record { body = is.body; held = roster_too (number_text q) is.body is.held; text = is.text }

  chain_too : (q : ℕ) (chain : List RosterRecord) → IsChainDown a q chain → IsChainDown b q chain
  chain_too q [] down = down
  chain_too q (Whole entries ∷ rest) down = (rostered_too q (Whole entries) down.0, down.1)
  chain_too q (Delta base depth gone changed ∷ rest) down = (rostered_too q (Delta base depth gone changed) down.0, chain_too base rest down.1)

  rebuilt_too : (q : ℕ) (r : RebuiltRoster) → Rebuilds a q r → Rebuilds b q r
  rebuilt_too q r is = record { chain = is.chain; down = chain_too q is.chain is.down; entries = is.entries; spelled = is.spelled; deltas = is.deltas }

  recalled_too : (n : ℕ) (k : Cache) → AreRecalled a n k → AreRecalled b n k
  recalled_too n k is = record {
    rosters = λ x there. let r = is.rosters x there in (r.0, rebuilt_too x.at x.rebuilt.value r.1);
    log = λ at l there. let r = is.log at l there in (r.0, logged_too at l r.1);
  }

  meta_same : (key : List ℕ) → body_at b 1 key ≡ body_at a 1 key
  meta_same key = ap (λ t. get t key) (second.base.meta ∙ sym first.base.meta)

  counted_too : (n : ℕ) → Counted a n → Counted b n
  counted_too n is = record { body = is.body; held = meta_same count_key ∙ is.held; eight = is.eight; number = is.number; version = meta_same version_key ∙ is.version }

  meta_too : (new : Bool) (n : ℕ) → IsMetaOf a (record { count = n; is_new = new }) → IsMetaOf b (record { count = n; is_new = new })
  meta_too true n is = (meta_same count_key ∙ is.0, is.1, λ old. is.2 (sym (meta_same version_key) ∙ old))
  meta_too false n is = counted_too n is

  by_meta : (o : Option Meta) (k : Cache) → MatchOption o ((n : ℕ) → AreRecalled a n k) (λ (m : Meta). IsMetaOf a m × AreRecalled a m.count k) →
      MatchOption o ((n : ℕ) → AreRecalled b n k) (λ (m : Meta). IsMetaOf b m × AreRecalled b m.count k)
  by_meta None k is = λ n. recalled_too n k (is n)
  by_meta (Some m) k is = (meta_too m.is_new m.count is.0, recalled_too m.count k is.1)

  pub known_too : (m : Memory) → Knows m a → Knows m b
  known_too m is = by_meta m.meta m.cache is
