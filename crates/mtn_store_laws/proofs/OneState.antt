-- Contents that stand for a state spell it: its log is read off tables 3 and 4, one position after the other.
use Rattle.std.specs.Prelude.{take, drop, slice_get}
use Rattle.std.specs.Option.{option_map_or}
use Rattle.std.specs.Int.{w64, from_be_bytes}
use Rattle.std.proofs.Common.{◌≡◌, ◌≤◌, ◌<◌, ℕ, zero, suc, List, [], ◌∷◌, ◌++◌, length, Some, refl, sym, ap, ◌∙◌, inl, inr, arith}
use Rattle.std.proofs.lemmas.List.{take_at, drop_at, take_all}
use Rattle.std.specs.FinMap.{get-empty, empty}
use Rattle.std.specs.Ordering.{nat_cmp}
use Rattle.std.specs.Cmp.Lexicographic.{slice_cmp}
use Rattle.mtn_history_laws.specs.History.{Revision}
use Rattle.mtn_replay.proofs.Histories.{history_is_grown, log_is_short}
use Rattle.mtn_replay.proofs.Places.{within}
use Rattle.mtn_model.specs.State.{Logged, State, empty_state}
use Rattle.mtn_model.specs.Table.{Contents, body_at, nothing}
use Rattle.mtn_records.specs.Fields.{number_text}
use Rattle.mtn_history.specs.Meta.{count_key}
use Rattle.mtn_history.specs.Stands.{StandsFor, Stands}
use Rattle.mtn_history.proofs.LogLemmas.{there}
use Rattle.mtn_history.proofs.MetaLemmas.{held_count, told_back}
use Rattle.mtn_replay.proofs.FileLemmas.{no_certificate}
use Rattle.mtn_store_laws.specs.Spelled.{held_or_none, certs_in, count_of, id_at, logged_at, log_below, spelled}
use Rattle.mtn_store_laws.proofs.SpelledCerts.{certs_are, no_records}

-- nothing spells the empty state
nothing_spells : spelled nothing ≡ empty_state
nothing_spells i = record {
  files = empty;
  log = log_below nothing (ap (λ o. option_map_or (from_be_bytes w64) o 0) (get-empty (slice_cmp nat_cmp) count_key) i);
  certs = sym (certs_are empty empty no_records (λ c held. absurd (no_certificate c held)) (λ c held. absurd (no_certificate c held)) (λ c held. absurd (no_certificate c held))) i;
  keys = empty;
}

front_more : {X : Type 0} (xs : List X) (k : ℕ) (x : X) → slice_get xs k ≡ Some x → take (suc k) xs ≡ take k xs ++ x ∷ []
front_more [] k x e = absurd cc
front_more (y ∷ ys) zero x e = let same : y ≡ x = cc in ap (λ z. z ∷ []) same
front_more (y ∷ ys) (suc k) x e = ap (λ zs. y ∷ zs) (front_more ys k x e)

module _ (f : List ℕ → List ℕ) (c : Contents) (s : State) (stands : StandsFor f c s) where
  -- the record of the log at a position begins with the id that the log has there
  id_is : (r : ℕ) (l : Logged) → slice_get s.log r ≡ Some l → r < length s.log → id_at c r ≡ l.id
  id_is r l at lt =
      let at_r = there c stands.base.history stands.base.kept (history_is_grown f s.files s.log stands.base.history stands.base.spelled) stands.base.revisions.long stands.base.log r (omega (arith, lt, stands.base.spelled.long)) in
      let v = at_r.0 in
      let body = at_r.5 in
      let next = stands.base.spelled.each r l v at at_r.3 in
      ap (λ o. take 20 (held_or_none o)) at_r.4 ∙ ap (take 20) body.text.whole ∙ take_at v.id.0 _ 20 body.text.formed.0
      ∙ ap (λ (w : Revision). w.id.0) next.made

  logged_is : (r : ℕ) (l : Logged) → slice_get s.log r ≡ Some l → r < length s.log → l ≡ logged_at c r
  logged_is r l at lt =
      let id = id_is r l at lt in
      let text : drop 8 (held_or_none (body_at c 3 (id_at c r))) ≡ l.text =
      ap (λ i. drop 8 (held_or_none (body_at c 3 i))) id ∙ ap (λ o. drop 8 (held_or_none o)) (stands.base.texts.each r l at) ∙ drop_at (number_text r) l.text 8 refl in
      λ i. record { id = sym id i; text = sym text i }

  log_is : (r : ℕ) → r ≤ length s.log → take r s.log ≡ log_below c r
  log_is zero le = refl
  log_is (suc r) le =
      let l = within s.log r (omega (arith, le)) in
      front_more s.log r l.0 l.1 ∙ (λ i. log_is r (omega (arith, le)) i ++ logged_is r l.0 l.1 (omega (arith, le)) i ∷ [])

  counted : count_of c ≡ length s.log
  counted = ap (λ o. option_map_or (from_be_bytes w64) o 0) (held_count f c s stands)
      ∙ told_back (length s.log) (log_is_short f s.files s.log stands.base.history stands.base.spelled)

  old_spelled : s ≡ spelled c
  old_spelled =
      let log : s.log ≡ log_below c (count_of c) = sym (take_all (length s.log) s.log (omega arith)) ∙ log_is (length s.log) (omega arith) ∙ ap (log_below c) (sym counted) in
      let law = stands.lawful.certs in
      let certs : s.certs ≡ certs_in (c 8) = certs_are s.certs (c 8) stands.certs law.lawful law.revisions law.keys in
      λ i. record { files = sym stands.base.files i; log = log i; certs = certs i; keys = sym stands.keys i }

pub stands_spelled : (f : List ℕ → List ℕ) (c : Contents) (s : State) → Stands f c s → s ≡ spelled c
stands_spelled f c s (inl new) = new.state ∙ sym (ap spelled new.records ∙ nothing_spells)
stands_spelled f c s (inr stands) = old_spelled f c s stands
