-- What is shown of records that a walk went over stands for the state of their front.
use Rattle.std.specs.Prelude.{slice_get}
use Rattle.std.specs.FinMap.{get, empty, get-empty}
use Rattle.std.specs.Cmp.Lexicographic.{slice_cmp}
use Rattle.std.specs.Option.{option_map_or}
use Rattle.std.specs.Ordering.{nat_cmp}
use Rattle.std.proofs.Common.{◌≡◌, ◌<◌, ◌≤◌, ◌^◌, ℕ, Bool, true, false, cond, List, ◌++◌, length, take, Option, Some, None, refl, sym, ap, ◌∙◌, subst, arith}
use Rattle.std.proofs.lemmas.List.{take_at}
use Rattle.std.proofs.lemmas.Slice.Eq.{bytes_eq-Decides}
use Rattle.mtn_base.specs.Hex.{id_of}
use Rattle.mtn_base.specs.declared.id.Id.{Id}
use Rattle.mtn_certs.specs.Certificates.{Certificate}
use Rattle.mtn_certs.specs.Order.{cert_cmp}
use Rattle.mtn_history_laws.specs.History.{Revision}
use Rattle.mtn_model.specs.State.{Logged}
use Rattle.mtn_model.specs.Table.{Contents, Table, body_at, no_table}
use Rattle.mtn_records.specs.Fields.{number_text}
use Rattle.mtn_records.specs.Records.{parents_text}
use Rattle.mtn_replay.specs.Lawful.{IsLawful}
use Rattle.mtn_replay.proofs.Histories.{log_is_short}
use Rattle.mtn_replay.proofs.Places.{within, inside}
use Rattle.mtn_history.specs.Meta.{meta_of, version}
use Rattle.mtn_history.specs.Stands.{StandsFor}
use Rattle.mtn_check_laws.specs.FirstDamage.{IsBegun}
use Rattle.mtn_check_laws.specs.Fronts.{Front, StandsTo}
use Rattle.mtn_check_log.specs.Below.{below, has_id, has_id_at, is_position, is_text_of}
use Rattle.mtn_check_log.specs.Positions.{state_of}
use Rattle.mtn_check_log.proofs.Keys.{and_both, front_is, kept_key, position_is, position_of, text_missing, text_named, text_shown}
use Rattle.mtn_check_log.proofs.Showing.{unused_table}

-- what is picked by a test passed it
passed : (b : Bool) (o : Option (List ℕ)) (body : List ℕ) → cond b o None ≡ Some body → (b ≡ true) × (o ≡ Some body)
passed true o body e = (refl, e)
passed false o body e = absurd cc

no_body : (k body : List ℕ) → get no_table k ≡ Some body → ⊥
no_body k body e = let both : None ≡ Some body = sym (get-empty (slice_cmp nat_cmp) k) ∙ e in cc

module _ (f : List ℕ → List ℕ) (c : Contents) (r : ℕ) (front : Front) (stands : StandsTo f c r front) where
  pub short : r ≤ 2147483648
  short = subst (λ n. n ≤ 2147483648) stands.long (log_is_short f (c 2) front.log front.history stands.spelled)

  pub low : (q : ℕ) → q < r → q < 2 ^ 64
  low q lt = let s = short in omega (arith, lt, s)

  pub below_r : (q : ℕ) → q < length front.log → q < r
  below_r q lt = subst (λ n. q < n) stands.long lt

  -- the record of the log at a position has the id of the text there
  pub id_in_log : (q : ℕ) (l : Logged) → slice_get front.log q ≡ Some l → (body : List ℕ) × (body_at c 4 (number_text q) ≡ Some body) × (take 20 body ≡ l.id)
  id_in_log q l at =
      let lt : q < length front.log = inside front.log q l at in
      let v = within front.history q (omega (arith, lt, stands.spelled.long)) in
      let k = within front.kept q (omega (arith, lt, stands.spelled.long, stands.revisions.long)) in
      let o = stands.log q v.0 k.0 v.1 k.1 in
      let named : v.0.id ≡ id_of l.id = ap (λ (x : Revision). x.id) (stands.spelled.each q l v.0 at v.1).made in
      (o.0, o.1, ap (take 20) o.2.text.whole ∙ take_at v.0.id.0 (number_text k.0.next ++ parents_text o.2.parents) 20 o.2.text.formed.0 ∙ ap (λ (i : Id). i.0) named)

  has_it : (q : ℕ) (l : Logged) → slice_get front.log q ≡ Some l → has_id_at c l.id (number_text q) ≡ true
  has_it q l at = let o = id_in_log q l at in ap (λ b. option_map_or (has_id l.id) b false) o.1 ∙ (bytes_eq-Decides (take 20 o.0) l.id).1 o.2

  text_each : (q : ℕ) (l : Logged) → slice_get front.log q ≡ Some l → body_at (below r c) 3 l.id ≡ Some (number_text q ++ l.text)
  text_each q l at =
      let lt : q < r = below_r q (inside front.log q l at) in
      text_named r c l.id (number_text q ++ l.text) (number_text q) true (stands.texts q l at) (front_is q (number_text q ++ l.text) l.text refl) (position_of r q lt (low q lt)) (sym (has_it q l at))

  -- a text that is shown is one of the log
  named_by : (id key : List ℕ) → is_position r key ≡ true → has_id_at c id key ≡ true → (q : ℕ) × (l : Logged) × (slice_get front.log q ≡ Some l) × (l.id ≡ id)
  named_by id key placed named =
      let p = position_is r key placed in
      let lt = p.1 in
      let l = within front.log p.0 (omega (arith, lt, stands.long)) in
      let o = id_in_log p.0 l.0 l.1 in
      let test : has_id id o.0 ≡ true = ap (λ b. option_map_or (has_id id) b false) (sym o.1 ∙ ap (body_at c 4) (sym p.2)) ∙ named in
      (p.0, l.0, l.1, sym o.2 ∙ (bytes_eq-Decides (take 20 o.0) id).0 test)

  pub text_only : (id body : List ℕ) → body_at (below r c) 3 id ≡ Some body → (q : ℕ) × (l : Logged) × (slice_get front.log q ≡ Some l) × (l.id ≡ id)
  text_only id body shown = by (body_at c 3 id) refl
    where
      by : (o : Option (List ℕ)) → body_at c 3 id ≡ o → (q : ℕ) × (l : Logged) × (slice_get front.log q ≡ Some l) × (l.id ≡ id)
      by None e = absurd (let both : None ≡ Some body = sym (text_missing r c id e) ∙ shown in cc)
      by (Some held) e =
          let p = passed (is_text_of r c id held) (Some held) body (sym (text_shown r c id held e) ∙ shown) in
          let b = and_both (is_position r (take 8 held)) (has_id_at c id (take 8 held)) p.0 in
          named_by id (take 8 held) b.0 b.1

  -- tables 4 and 5
  shown_at : (t : Table) (q : ℕ) (o : Option (List ℕ)) (body : List ℕ) → q < length front.history → o ≡ cond (is_position r (number_text q)) (get t (number_text q)) None → get t (number_text q) ≡ Some body → o ≡ Some body
  shown_at t q o body lt is held =
      let under : q < r = omega (arith, lt, stands.spelled.long, stands.long) in
      is ∙ ap (λ b. cond b (get t (number_text q)) None) (position_of r q under (low q under)) ∙ held

  only_at : (t : Table) (key body : List ℕ) (o : Option (List ℕ)) → o ≡ cond (is_position r key) (get t key) None → o ≡ Some body → (q : ℕ) × (q < length front.history) × (key ≡ number_text q)
  only_at t key body o is shown =
      let p = passed (is_position r key) (get t key) body (sym is ∙ shown) in
      let q = position_is r key p.0 in
      let lt = q.1 in
      (q.0, omega (arith, lt, stands.spelled.long, stands.long), q.2)

  lawful : (n : ℕ) → IsBegun f c n → IsLawful f (state_of c front)
  lawful n begun = record {
    files = record { sizes = λ id b h. (begun.files 2 id b h refl).0; ids = λ id b h. (begun.files 2 id b h refl).1 };
    history = front.history;
    log = stands.spelled;
    certs = record {
      lawful = λ x held. absurd (no_cert x held);
      revisions = λ x held. absurd (no_cert x held);
      keys = λ x held. absurd (no_cert x held);
    };
    spoken_of = λ x held. absurd (no_cert x held);
    keys = record { ids = λ id name h. absurd (no_body id name h); names = λ id name h. absurd (no_body id name h) };
  }
    where
      no_cert : (x : Certificate) → get (empty {X = Unit {0}} {R = cert_cmp}) x ≡ Some tt → ⊥
      no_cert x held = let both : None ≡ Some tt = sym (get-empty cert_cmp x) ∙ held in cc

  pub below_stands : (n : ℕ) → IsBegun f c n → StandsFor f (below r c) (state_of c front)
  below_stands n begun = record {
    lawful = lawful n begun;
    base = record {
      meta = ap (meta_of version) (sym stands.long);
      files = refl;
      texts = record { each = text_each; only = text_only };
      history = front.history;
      spelled = stands.spelled;
      kept = front.kept;
      revisions = stands.revisions;
      log = record {
        each = λ q v k hv hk. let o = stands.log q v k hv hk in (o.0, shown_at (c 4) q (body_at (below r c) 4 (number_text q)) o.0 (inside front.history q v hv) (kept_key (c 4) (is_position r) (number_text q)) o.1, o.2);
        only = λ key body h. only_at (c 4) key body (body_at (below r c) 4 key) (kept_key (c 4) (is_position r) key) h;
      };
      rosters = record {
        each = λ q v k hv hk. let o = stands.rosters q v k hv hk in (o.0, shown_at (c 5) q (body_at (below r c) 5 (number_text q)) o.0 (inside front.history q v hv) (kept_key (c 5) (is_position r) (number_text q)) o.1, o.2);
        only = λ key body h. only_at (c 5) key body (body_at (below r c) 5 key) (kept_key (c 5) (is_position r) key) h;
      };
    };
    keys = refl;
    certs = record { each = λ x held. absurd (let both : None ≡ Some tt = sym (get-empty cert_cmp x) ∙ held in cc); only = λ key body h. absurd (no_body key body h) };
    others = λ t other. unused_table r c t other.meta other.files other.texts other.log other.rosters;
  }
