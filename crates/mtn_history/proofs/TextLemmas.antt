-- Texts of revisions, found in table 3.
use Rattle.std.specs.Prelude.{IfSome, MatchBool, find, slice_get, option_map}
use Rattle.std.proofs.Common.{◌≡◌, ◌≤◌, ◌<◌, ◌-◌, ◌+◌, ℕ, zero, suc, Bool, true, false, cond, List, [], ◌∷◌, ◌++◌, length, take, drop, Option, Some, None, refl, sym, ap, ◌∙◌, subst, arith, rules}
use Rattle.std.proofs.lemmas.List.{length-take, length-drop, take-append-le, take_all}
use Rattle.std.specs.FinMap.{get, get-empty, empty}
use Rattle.std.specs.Ordering.{nat_cmp}
use Rattle.std.specs.Cmp.Lexicographic.{slice_cmp}
use Rattle.std.specs.List.{copy_within}
use Rattle.mtn_base.specs.Names.{same_bytes}
use Rattle.mtn_base.specs.declared.id.Id.{Id}
use Rattle.mtn_base.proofs.Tests.{same_bytes-is, same_bytes-self}
use Rattle.mtn_model.specs.Table.{Table, Contents, body_at}
use Rattle.mtn_model.specs.State.{Logged, State}
use Rattle.mtn_ports.specs.Kept.{with_all, IsBody}
use Rattle.mtn_records.specs.Fields.{number_text}
use Rattle.mtn_history.specs.declared.pending.Pending.{Pending}
use Rattle.mtn_history.specs.Revisions.{AreTexts}
use Rattle.mtn_history.specs.Stands.{StandsFor, IsNew, IsDraft}
use Rattle.mtn_replay.specs.Texts.{text_under}

-- table 3 of a draft
pub texts_of : (b : Bool) (f : List ℕ → List ℕ) (c : Contents) (s : State) → MatchBool b (IsNew c s) (StandsFor f c s) → AreTexts s.log (c 3)
texts_of true f c s new = subst (λ (d : Contents). AreTexts s.log (d 3)) (sym new.records) (subst (λ (x : State). AreTexts x.log (empty {X = List ℕ} {R = slice_cmp nat_cmp})) (sym new.state) none_kept)
  where
    none_kept : AreTexts [] (empty {X = List ℕ} {R = slice_cmp nat_cmp})
    none_kept = record { each = λ r l at. absurd cc; only = λ id body found. absurd (let none : get (empty {X = List ℕ} {R = slice_cmp nat_cmp}) id ≡ None = get-empty (slice_cmp nat_cmp) id in cc) }
texts_of false f c s stands = stands.base.texts

-- the first of an id
record First (log : List Logged) (id : List ℕ) : Type 0 where
  r : ℕ
  l : Logged
  at : slice_get log r ≡ Some l
  same : l.id ≡ id
  text : text_under log id ≡ Some l.text

text_at : (m : Logged) (log : List Logged) (id : List ℕ) (b : Bool) → same_bytes m.id id ≡ b → text_under (m ∷ log) id ≡ option_map (λ (x : Logged). x.text) (cond b (Some m) (find (λ (x : Logged). same_bytes x.id id) log))
text_at m log id b is = ap (λ t. option_map (λ (x : Logged). x.text) (cond t (Some m) (find (λ (x : Logged). same_bytes x.id id) log))) is

first_by : (m : Logged) (log : List Logged) (id : List ℕ) (r : ℕ) (l : Logged) (b : Bool) → same_bytes m.id id ≡ b → slice_get (m ∷ log) r ≡ Some l → l.id ≡ id →
    ((k : ℕ) → slice_get log k ≡ Some l → First log id) → First (m ∷ log) id
first_by m log id r l true is at same later = record { r = 0; l = m; at = refl; same = same_bytes-is m.id id is; text = text_at m log id true is }
first_by m log id zero l false is at same later = absurd (let here : m ≡ l = cc in let t : same_bytes m.id id ≡ true = ap (same_bytes m.id) (sym (ap (λ (x : Logged). x.id) here ∙ same)) ∙ same_bytes-self m.id in cc)
first_by m log id (suc r) l false is at same later =
    let f = later r at in record { r = suc f.r; l = f.l; at = f.at; same = f.same; text = text_at m log id false is ∙ f.text }

first_of : (log : List Logged) (id : List ℕ) (r : ℕ) (l : Logged) → slice_get log r ≡ Some l → l.id ≡ id → First log id
first_of [] id r l at same = absurd cc
first_of (m ∷ log) id r l at same = first_by m log id r l (same_bytes m.id id) refl at same (λ k there. first_of log id k l there same)

none_by : (m : Logged) (log : List Logged) (id : List ℕ) (b : Bool) → same_bytes m.id id ≡ b → (m.id ≡ id → ⊥) → text_under log id ≡ None → text_under (m ∷ log) id ≡ None
none_by m log id true is never rest = absurd (never (same_bytes-is m.id id is))
none_by m log id false is never rest = text_at m log id false is ∙ rest

none_of : (log : List Logged) (id : List ℕ) → ((r : ℕ) (l : Logged) → slice_get log r ≡ Some l → l.id ≡ id → ⊥) → text_under log id ≡ None
none_of [] id never = refl
none_of (m ∷ log) id never = none_by m log id (same_bytes m.id id) refl (never 0 m refl) (none_of log id (λ r l at same. never (suc r) l at same))

-- behind the eight bytes of a position stands the text
pub behind : (r : ℕ) (text : List ℕ) → drop 8 (number_text r ++ text) ≡ text
behind r text = search rules

long : (r : ℕ) (text : List ℕ) → 8 ≤ length (number_text r ++ text)
long r text = search rules

one : (o : Option (List ℕ)) (a b : List ℕ) → o ≡ Some a → o ≡ Some b → a ≡ b
one o a b x y = cc

-- what is found under an id is its text behind a position
pub text_found : (log : List Logged) (t : Table) (id body : List ℕ) → AreTexts log t → get t id ≡ Some body → (8 ≤ length body) × (text_under log id ≡ Some (drop 8 body))
text_found log t id body texts found =
    let o = texts.only id body found in
    let f = first_of log id o.0 o.1 o.2 o.3 in
    let is : body ≡ number_text f.r ++ f.l.text = one (get t id) body (number_text f.r ++ f.l.text) found (ap (get t) (sym f.same) ∙ texts.each f.r f.l f.at) in
    (subst (λ xs. 8 ≤ length xs) (sym is) (long f.r f.l.text), f.text ∙ ap Some (sym (behind f.r f.l.text) ∙ ap (drop 8) (sym is)))

pub text_missing : (log : List Logged) (t : Table) (id : List ℕ) → AreTexts log t → get t id ≡ None → text_under log id ≡ None
text_missing log t id texts none = none_of log id (λ r l at same. absurd (let both = sym none ∙ ap (get t) (sym same) ∙ texts.each r l at in cc))

-- what is moved to the front
moved_front : (xs : List ℕ) (n : ℕ) → n ≡ length xs → 8 ≤ n → take (n - 8) (copy_within xs 8 n 0) ≡ drop 8 xs
moved_front xs n is le =
    let long : n - 8 ≤ length (drop 8 xs) = omega (arith, length-drop 8 xs, is) in
    let cut : n - 8 ≤ length (take (n - 8) (drop 8 xs)) = omega (arith, length-take (n - 8) (drop 8 xs), long) in
    take-append-le (n - 8) (take (n - 8) (drop 8 xs)) (drop (0 + (n - 8)) xs) cut ∙ take_all (n - 8) (take (n - 8) (drop 8 xs)) (omega (arith, length-take (n - 8) (drop 8 xs))) ∙ take_all (n - 8) (drop 8 xs) (omega (arith, length-drop 8 xs, is))

module _ (f : List ℕ → List ℕ) (told : Option Contents) (p : Pending) (found : Bool) (out key : List ℕ) (id : Id)
    (finds : IfSome told (λ d. IsBody (body_at (with_all d p.batch) 3 key) found out)) (same : key ≡ id.0) (c : Contents) (s : State) (at : told ≡ Some c) (draft : IsDraft f c p s) where
  texts : AreTexts s.log (with_all c p.batch 3)
  texts = texts_of p.is_new f (with_all c p.batch) s draft.stands

  answer : IsBody (body_at (with_all c p.batch) 3 id.0) found out
  answer = subst (λ k. IsBody (body_at (with_all c p.batch) 3 k) found out) same (subst (λ o. IfSome o (λ d. IsBody (body_at (with_all d p.batch) 3 key) found out)) at finds)

  pub finds_none : found ≡ false → text_under s.log id.0 ≡ None
  finds_none missing = text_missing s.log (with_all c p.batch 3) id.0 texts (subst (λ b. IsBody (body_at (with_all c p.batch) 3 id.0) b out) missing answer)

  there : found ≡ true → (8 ≤ length out) × (text_under s.log id.0 ≡ Some (drop 8 out))
  there is = text_found s.log (with_all c p.batch 3) id.0 out texts (subst (λ b. IsBody (body_at (with_all c p.batch) 3 id.0) b out) is answer)

  pub never_short : found ≡ true → length out < 8 → ⊥
  never_short is short = let t = there is in omega (arith, short, t.0)

  pub finds_text : (n : ℕ) (moved after : List ℕ) → found ≡ true → n ≡ length out → moved ≡ copy_within out 8 n 0 → after ≡ take (n - 8) moved → text_under s.log id.0 ≡ Some after
  finds_text n moved after is long_as copied cut = let t = there is in t.1 ∙ ap Some (sym (cut ∙ ap (take (n - 8)) copied ∙ moved_front out n long_as (subst (λ m. 8 ≤ m) (sym long_as) t.0)))
