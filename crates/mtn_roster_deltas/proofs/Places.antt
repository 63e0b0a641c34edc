-- Numbers by places.
use Rattle.std.specs.Prelude.{map, find, filter, not, is_some, option_map, slice_get, Contains, ◌⊎◌}
use Rattle.std.specs.List.{position_from}
use Rattle.std.specs.declared.cmp.Ordering.TheVariants.{Less}
use Rattle.std.specs.Cmp.{tied_itself}
use Rattle.std.proofs.Common.{◌≡◌, ℕ, zero, suc, ◌+◌, ◌<◌, ◌≤◌, Bool, true, false, Bor, cond, List, [], ◌∷◌, ◌++◌, length, take, drop, get_or, set, Option, Some, None, refl, sym, ◌∙◌, ap, subst, arith, inl, inr, append_assoc, append-nil, length-append, get_or-set_same, get_or-set_other}
use Rattle.std.proofs.lemmas.Bool.{cases_lt}
use Rattle.std.proofs.lemmas.List.{take-append-drop, take_more}
use Rattle.std.proofs.lemmas.List.Elements.{Contains-append_left, Contains-append_right, Contains-append_cases, filter-append}
use Rattle.std.proofs.Math.Seq.{take-append_seam}
use Rattle.std.proofs.lemmas.Grind.{flat_map-append}
use Rattle.mtn_base.specs.Names.{name_cmp, same_name}
use Rattle.mtn_base.specs.declared.name.NodeName.{NodeName}
use Rattle.std.specs.Option.{option_copied}
use Rattle.mtn_marking.specs.Marking.{MarkedTree}
use Rattle.mtn_marking.specs.declared.node.NodeMarks.{NodeMarks}
use Rattle.mtn_marking.proofs.Zips.{got_at, take_past}
use Rattle.mtn_records.specs.declared.entry.NumberedEntry.{NumberedEntry}
use Rattle.mtn_roster.specs.declared.entry.Entry.{Entry}
use Rattle.mtn_base.specs.Lists.{rises}
use Rattle.mtn_base.proofs.Finding.{found, finds_some}
use Rattle.mtn_base.proofs.Orders.{names_total}
use Rattle.mtn_base.proofs.Members.{taken, split_cons}
use Rattle.mtn_base.proofs.Sorting.{less_at}
use Rattle.mtn_base.proofs.Tests.{same_name-is, same_name-self}
use Rattle.mtn_roster_deltas.specs.Chain.{Entries, number_of}
use Rattle.mtn_roster_deltas.specs.Numbering.{all_of, number_among, unnumbered, or_next, number_by}
use Rattle.mtn_roster_deltas.specs.Noting.{positive, AreOne, AreNoted, AreFilled, AreNumbered, IsNumberedOf}
use Rattle.mtn_roster_deltas.proofs.Ascending.{cut_of, place_by, map_same}

abbrev pub marked_names : List NodeMarks → List NodeName
marked_names ms = map (λ (m : NodeMarks). m.name) ms

abbrev pub tree_names : List Entry → List NodeName
tree_names t = map (λ (e : Entry). e.name) t

pub some_is : {A : Type 0} {a b : A} → Some a ≡ Some b → a ≡ b
some_is h = cc

-- the number above 0 that stands at a place
pub positive_is : (n : ℕ) → 0 < n → positive n ≡ Some n
positive_is zero h = absurd (omega (arith, h))
positive_is (suc n) h = refl

pub was_positive : (n m : ℕ) → positive n ≡ Some m → (n ≡ m) × (0 < n)
was_positive zero m h = absurd cc
was_positive (suc n) m h = let e : suc n ≡ m = cc in (e, omega arith)

abbrev first_or : Option ℕ → Option ℕ → Option ℕ
first_or None o = o
first_or (Some n) o = Some n

abbrev own : NumberedEntry → NodeName → Option ℕ
own e n = cond (same_name e.node n) (Some e.number) None

among_more : (seen : Entries) (e : NumberedEntry) (n : NodeName) → number_among (seen ++ e ∷ []) n ≡ first_or (number_among seen n) (own e n)
among_more [] e n = elim (same_name e.node n) as (λ b. option_map number_of (cond b (Some e) None) ≡ cond b (Some e.number) None) [ true ↦ refl | false ↦ refl ]
among_more (f ∷ seen) e n =
    elim (same_name f.node n) as (λ b. option_map number_of (cond b (Some f) (find (λ (g : NumberedEntry). same_name g.node n) (seen ++ e ∷ []))) ≡ first_or (option_map number_of (cond b (Some f) (find (λ (g : NumberedEntry). same_name g.node n) seen))) (own e n)) [
      | true ↦ refl
      | false ↦ among_more seen e n
    ]

-- the entry that tells a number
pub among_was : (es : Entries) (n : NodeName) (v : ℕ) → number_among es n ≡ Some v → (f : NumberedEntry) × Contains es f × (f.node ≡ n) × (f.number ≡ v)
among_was es n v h =
    elim (find (λ (e : NumberedEntry). same_name e.node n) es) as (λ o. find (λ (e : NumberedEntry). same_name e.node n) es ≡ o → option_map number_of o ≡ Some v → (f : NumberedEntry) × Contains es f × (f.node ≡ n) × (f.number ≡ v)) [
      | None ↦ λ e g. absurd cc
      | Some f ↦ λ e g. let t = found (λ (e : NumberedEntry). same_name e.node n) es f e in let num : f.number ≡ v = cc in (f, place_by es f t.at, same_name-is f.node n t.passes, num)
    ] refl h

-- places of a list of names that ascend
pub names_apart : (names : List NodeName) → rises name_cmp names ≡ true → (j k : ℕ) (n : NodeName) → slice_get names j ≡ Some n → slice_get names k ≡ Some n → j ≡ k
names_apart names up j k n at_j at_k =
    let gj = got_at names j n at_j in
    let gk = got_at names k n at_k in
    let up' : rises name_cmp (map (λ m. m) names) ≡ true = ap (rises name_cmp) (map_same names) ∙ up in
    elim (cases_lt j k) [
      | inl lt ↦ absurd (let a = less_at name_cmp (λ m. m) names_total names j k n up' lt gk.0 in
          let b : name_cmp n n ≡ Less = (λ i. name_cmp (gj.1 i) (gk.1 i)) ∙ a in let c = tied_itself names_total n in cc)
      | inr ge ↦ elim (cases_lt k j) [
        | inl lt ↦ absurd (let a = less_at name_cmp (λ m. m) names_total names k j n up' lt gj.0 in
            let b : name_cmp n n ≡ Less = (λ i. name_cmp (gk.1 i) (gj.1 i)) ∙ a in let c = tied_itself names_total n in cc)
        | inr le ↦ omega arith
      ]
    ]

module _ (names : List NodeName) (up : rises name_cmp names ≡ true) where
  -- an entry's number is noted at the place of its node
  pub notes_here : (seen : Entries) (ns : List ℕ) (p : ℕ) (e : NumberedEntry) → p < length ns → slice_get names p ≡ Some e.node → AreNoted seen names ns → AreOne (seen ++ e ∷ []) → AreNoted (seen ++ e ∷ []) names (set ns p e.number)
  notes_here seen ns p e lt at h one = record {
    each = λ k n is.
        among_more seen e n ∙ elim (same_name e.node n) as (λ b. same_name e.node n ≡ b → first_or (number_among seen n) (cond b (Some e.number) None) ≡ positive (get_or (set ns p e.number) k 0)) [
          | true ↦ λ g.
              let same : e.node ≡ n = same_name-is e.node n g in
              let k_is : k ≡ p = names_apart names up k p n is (at ∙ ap Some same) in
              let last = Contains-append_right seen (e ∷ []) e (0, omega arith, refl) in
              first_is (number_among seen n) e.number (λ v w. let f = among_was seen n v w in
              sym f.3 ∙ one.number f.0 e (Contains-append_left seen (e ∷ []) f.0 f.1) last (f.2 ∙ sym same))
              ∙ sym (positive_is e.number (one.above e last))
              ∙ ap positive (sym (ap (λ i. get_or (set ns p e.number) i 0) k_is ∙ get_or-set_same ns p e.number 0 lt))
          | false ↦ λ g. none_more (number_among seen n) ∙ h.each k n is ∙ ap positive (sym (get_or-set_other ns p k e.number 0 (λ q. let a : e.node ≡ n = some_is (sym at ∙ ap (slice_get names) (sym q) ∙ is) in let b = ap (same_name e.node) (sym a) ∙ same_name-self e.node in cc)))
        ] refl;
  }
    where
      first_is : (o : Option ℕ) (m : ℕ) → ((v : ℕ) → o ≡ Some v → v ≡ m) → first_or o (Some m) ≡ Some m
      first_is None m h = refl
      first_is (Some v) m h = ap Some (h v refl)

      none_more : (o : Option ℕ) → first_or o None ≡ o
      none_more None = refl
      none_more (Some v) = refl

  -- an entry of another tree's node changes nothing
  pub notes_none : (seen : Entries) (ns : List ℕ) (e : NumberedEntry) → ((k : ℕ) (n : NodeName) → slice_get names k ≡ Some n → e.node ≡ n → ⊥) → AreNoted seen names ns → AreNoted (seen ++ e ∷ []) names ns
  notes_none seen ns e apart h = record {
    each = λ k n is.
        among_more seen e n ∙ elim (same_name e.node n) as (λ b. same_name e.node n ≡ b → first_or (number_among seen n) (cond b (Some e.number) None) ≡ positive (get_or ns k 0)) [
          | true ↦ λ g. absurd (apart k n is (same_name-is e.node n g))
          | false ↦ λ g. none_more (number_among seen n) ∙ h.each k n is
        ] refl;
  }
    where
      none_more : (o : Option ℕ) → first_or o None ≡ o
      none_more None = refl
      none_more (Some v) = refl

-- names at places of nodes
pub get_map : {X Y : Type 0} (f : X → Y) (xs : List X) (k : ℕ) → slice_get (map f xs) k ≡ option_map f (slice_get xs k)
get_map f [] k = refl
get_map f (x ∷ xs) zero = refl
get_map f (x ∷ xs) (suc k) = get_map f xs k

map_was : {X Y : Type 0} (f : X → Y) (o : Option X) (y : Y) → option_map f o ≡ Some y → (x : X) × (o ≡ Some x) × (f x ≡ y)
map_was f None y h = absurd cc
map_was f (Some x) y h = (x, refl, some_is h)

pub contains_got : {X : Type 0} (xs : List X) (k : ℕ) (x : X) → slice_get xs k ≡ Some x → Contains xs x
contains_got xs k x h = let g = got_at xs k x h in (k, g.0, sym g.1)

pub place_is : (ms : List NodeMarks) (p : ℕ) (n : NodeName) → p < length ms → slice_get ms p ≡ find (λ (m : NodeMarks). same_name m.name n) ms → slice_get (marked_names ms) p ≡ Some n
place_is ms p n lt h =
    let t = taken ms p lt in
    let f = found (λ (m : NodeMarks). same_name m.name n) ms t.0 (sym h ∙ t.1) in
    get_map (λ (m : NodeMarks). m.name) ms p ∙ ap (option_map (λ (m : NodeMarks). m.name)) t.1 ∙ ap Some (same_name-is t.0.name n f.passes)

pub place_none : (ms : List NodeMarks) (n : NodeName) → None ≡ find (λ (m : NodeMarks). same_name m.name n) ms → (k : ℕ) (m : NodeName) → slice_get (marked_names ms) k ≡ Some m → n ≡ m → ⊥
place_none ms n h k m is e =
    let t = map_was (λ (m : NodeMarks). m.name) (slice_get ms k) m (sym (get_map (λ (m : NodeMarks). m.name) ms k) ∙ is) in
    let s = finds_some (λ (m : NodeMarks). same_name m.name n) ms t.0 (cut_of ms t.0 (contains_got ms k t.0 t.1)) (ap (λ q. same_name q n) (t.2 ∙ sym e) ∙ same_name-self n) in
    let z = s.1 in cc

-- entries that are among others
pub one_among : (xs ys : Entries) → ((e : NumberedEntry) → Contains xs e → Contains ys e) → AreOne ys → AreOne xs
one_among xs ys into h = record { number = λ e f a b. h.number e f (into e a) (into f b); above = λ e a. h.above e (into e a) }

taken_among : {X : Type 0} (n : ℕ) (xs : List X) (x : X) → Contains (take n xs) x → Contains xs x
taken_among n xs x c = subst (λ l. Contains l x) (take-append-drop n xs) (Contains-append_left (take n xs) (drop n xs) x c)

-- one more entry of a list
pub notes_on : (names : List NodeName) (entries : Entries) (start now now' : List ℕ) (i : ℕ) (e : NumberedEntry) → i < length entries → e ≡ get_or entries i e →
    ((seen : Entries) → AreNoted seen names start → AreOne (seen ++ entries) → AreNoted (seen ++ take i entries) names now) →
    ((seen : Entries) → AreNoted seen names now → AreOne (seen ++ e ∷ []) → AreNoted (seen ++ e ∷ []) names now') →
    (seen : Entries) → AreNoted seen names start → AreOne (seen ++ entries) → AreNoted (seen ++ take (i + 1) entries) names now'
notes_on names entries start now now' i e lt is before step seen noted one =
    let more : (seen ++ take i entries) ++ e ∷ [] ≡ seen ++ take (i + 1) entries = append_assoc seen (take i entries) (e ∷ []) ∙ ap (λ l. seen ++ l) (sym (take_more entries i e lt ∙ ap (λ z. take i entries ++ z ∷ []) (sym is))) in
    subst (λ l. AreNoted l names now') more
    (step (seen ++ take i entries) (before seen noted one)
    (one_among ((seen ++ take i entries) ++ e ∷ []) (seen ++ entries) (λ f c.
    elim (Contains-append_cases seen (take (i + 1) entries) f (subst (λ l. Contains l f) more c)) [
      | inl a ↦ Contains-append_left seen entries f a
      | inr b ↦ Contains-append_right seen entries f (taken_among (i + 1) entries f b)
    ]) one))

pub notes_whole : (names : List NodeName) (seen entries : Entries) (now : List ℕ) (i : ℕ) → length entries ≤ i → AreNoted (seen ++ take i entries) names now → AreNoted (seen ++ entries) names now
notes_whole names seen entries now i le h = subst (λ l. AreNoted (seen ++ l) names now) (take_past entries i le) h

all_more : (known : List Entries) (i : ℕ) (list : Entries) → i < length known → list ≡ get_or known i list → all_of (take (i + 1) known) ≡ all_of (take i known) ++ list
all_more known i list lt is =
    ap all_of (take_more known i list lt ∙ ap (λ z. take i known ++ z ∷ []) (sym is)) ∙ flat_map-append (λ (es : Entries). es) (take i known) (list ∷ []) ∙ ap (λ l. all_of (take i known) ++ l) (append-nil list)

all_taken : (known : List Entries) (i : ℕ) (e : NumberedEntry) → Contains (all_of (take i known)) e → Contains (all_of known) e
all_taken known i e c =
    subst (λ l. Contains l e) (sym (flat_map-append (λ (es : Entries). es) (take i known) (drop i known)) ∙ ap all_of (take-append-drop i known))
    (Contains-append_left (all_of (take i known)) (all_of (drop i known)) e c)

-- one more list
pub notes_list : (names : List NodeName) (known : List Entries) (now now' : List ℕ) (i : ℕ) (list lent : Entries) → i < length known → list ≡ get_or known i list → lent ≡ list → AreOne (all_of known) →
    AreNoted (all_of (take i known)) names now → ((seen : Entries) → AreNoted seen names now → AreOne (seen ++ lent) → AreNoted (seen ++ lent) names now') → AreNoted (all_of (take (i + 1) known)) names now'
notes_list names known now now' i list lent lt is same one noted step =
    let more : all_of (take i known) ++ lent ≡ all_of (take (i + 1) known) = ap (λ l. all_of (take i known) ++ l) same ∙ sym (all_more known i list lt is) in
    subst (λ l. AreNoted l names now') more
    (step (all_of (take i known)) noted (one_among (all_of (take i known) ++ lent) (all_of known) (λ e c. all_taken known (i + 1) e (subst (λ l. Contains l e) more c)) one))

pub notes_all : (names : List NodeName) (known : List Entries) (now : List ℕ) (i : ℕ) → length known ≤ i → AreNoted (all_of (take i known)) names now → AreNoted (all_of known) names now
notes_all names known now i le h = subst (λ l. AreNoted (all_of l) names now) (take_past known i le) h

pub none_noted : (names : List NodeName) (zeros : List ℕ) → ((k : ℕ) → get_or zeros k 0 ≡ 0) → AreNoted [] names zeros
none_noted names zeros h = record { each = λ k n is. ap positive (sym (h k)) }

-- a slice written back to its list
pub back_is : (new whole : List ℕ) (n : ℕ) → length new ≡ n → take n (new ++ drop (length new) whole) ≡ new
back_is new whole n h = ap (λ k. take k (new ++ drop (length new) whole)) (sym h) ∙ take-append_seam new (drop (length new) whole)

-- one node more that is met
pub contains_cons : {X : Type 0} (x : X) (xs : List X) (y : X) → Contains (x ∷ xs) y → (x ≡ y) ⊎ Contains xs y
contains_cons x xs y c = elim (split_cons x xs y (cut_of (x ∷ xs) y c)) [ inl e ↦ inl e | inr s ↦ inr (place_by xs y s) ]

filtered_in : {X : Type 0} (test : X → Bool) (xs : List X) (x : X) → Contains (filter test xs) x → Contains xs x
filtered_in test [] x c = c
filtered_in test (y ∷ xs) x c =
    elim (test y) as (λ b. Contains (cond b (y ∷ filter test xs) (filter test xs)) x → Contains (y ∷ xs) x) [
      | true ↦ λ d. elim (contains_cons y (filter test xs) x d) [ inl e ↦ subst (Contains (y ∷ xs)) e (0, omega arith, refl) | inr t ↦ Contains-append_right (y ∷ []) xs x (filtered_in test xs x t) ]
      | false ↦ λ d. Contains-append_right (y ∷ []) xs x (filtered_in test xs x d)
    ] c

pub filter_keeps : {X : Type 0} (test : X → Bool) (xs : List X) (x : X) → Contains xs x → test x ≡ true → Contains (filter test xs) x
filter_keeps test [] x c h = c
filter_keeps test (y ∷ xs) x c h =
    elim (test y) as (λ b. test y ≡ b → Contains (cond b (y ∷ filter test xs) (filter test xs)) x) [
      | true ↦ λ g. elim (contains_cons y xs x c) [ inl e ↦ subst (Contains (y ∷ filter test xs)) e (0, omega arith, refl) | inr t ↦ Contains-append_right (y ∷ []) (filter test xs) x (filter_keeps test xs x t h) ]
      | false ↦ λ g. elim (contains_cons y xs x c) [ inl e ↦ absurd (let q = ap test e in cc) | inr t ↦ filter_keeps test xs x t h ]
    ] refl

abbrev pub is_name : NodeName → NodeName → Bool
is_name n m = same_name m n

-- the place of a name
place_more : (n : NodeName) (i : ℕ) (ms : List NodeName) (m : NodeName) → position_from (is_name n) i (ms ++ m ∷ []) ≡ first_or (position_from (is_name n) i ms) (cond (same_name m n) (Some (i + length ms)) None)
place_more n i [] m = ap (λ k. cond (same_name m n) (Some k) None) (let z : i ≡ i + 0 = omega arith in z)
place_more n i (x ∷ ms) m =
    elim (same_name x n) as (λ b. cond b (Some i) (position_from (is_name n) (i + 1) (ms ++ m ∷ [])) ≡ first_or (cond b (Some i) (position_from (is_name n) (i + 1) ms)) (cond (same_name m n) (Some (i + suc (length ms))) None)) [
      | true ↦ refl
      | false ↦ place_more n (i + 1) ms m ∙ ap (λ k. first_or (position_from (is_name n) (i + 1) ms) (cond (same_name m n) (Some k) None)) (let z : i + 1 + length ms ≡ i + suc (length ms) = omega arith in z)
    ]

pub place_was : (n : NodeName) (i : ℕ) (ms : List NodeName) (k : ℕ) → position_from (is_name n) i ms ≡ Some k → Contains ms n
place_was n i [] k h = absurd cc
place_was n i (x ∷ ms) k h =
    elim (same_name x n) as (λ b. same_name x n ≡ b → cond b (Some i) (position_from (is_name n) (i + 1) ms) ≡ Some k → Contains (x ∷ ms) n) [
      | true ↦ λ g q. subst (Contains (x ∷ ms)) (same_name-is x n g) (0, omega arith, refl)
      | false ↦ λ g q. Contains-append_right (x ∷ []) ms n (place_was n (i + 1) ms k q)
    ] refl h

pub place_there : (n : NodeName) (i : ℕ) (ms : List NodeName) → Contains ms n → position_from (is_name n) i ms ≡ None → ⊥
place_there n i [] c h = omega (arith, c.1)
place_there n i (x ∷ ms) c h =
    elim (same_name x n) as (λ b. same_name x n ≡ b → cond b (Some i) (position_from (is_name n) (i + 1) ms) ≡ None → ⊥) [
      | true ↦ λ g q. cc
      | false ↦ λ g q. elim (contains_cons x ms n c) [ inl e ↦ (let z = ap (is_name n) e ∙ same_name-self n in cc) | inr t ↦ place_there n (i + 1) ms t q ]
    ] refl h

-- nodes that are met
module _ (es : Entries) (first : ℕ) (names met : List NodeName) (n : NodeName) (new : Contains met n → ⊥) where
  abbrev lacks : NodeName → Bool
  lacks m = not (is_some (number_among es m))

  no_place : position_from (is_name n) 0 (unnumbered es met) ≡ None
  no_place = elim (position_from (is_name n) 0 (unnumbered es met)) as (λ o. position_from (is_name n) 0 (unnumbered es met) ≡ o → o ≡ None) [
    | None ↦ λ h. refl
    | Some k ↦ λ h. absurd (new (filtered_in lacks met n (place_was n 0 (unnumbered es met) k h)))
  ] refl

  known_more : (v : ℕ) → number_among es n ≡ Some v → unnumbered es (met ++ n ∷ []) ≡ unnumbered es met
  known_more v h = filter-append lacks met (n ∷ []) ∙ ap (λ o. unnumbered es met ++ cond (not (is_some o)) (n ∷ []) []) h ∙ append-nil (unnumbered es met)

  new_more : number_among es n ≡ None → unnumbered es (met ++ n ∷ []) ≡ unnumbered es met ++ n ∷ []
  new_more h = filter-append lacks met (n ∷ []) ∙ ap (λ o. unnumbered es met ++ cond (not (is_some o)) (n ∷ []) []) h

  -- a node that has a number keeps it
  pub fills_kept : (ns : List ℕ) (next p : ℕ) → slice_get names p ≡ Some n → (get_or ns p 0 ≡ 0 → ⊥) → AreFilled es first names met ns next → AreFilled es first names (met ++ n ∷ []) ns next
  fills_kept ns next p at some h =
      elim (number_among es n) as (λ o. number_among es n ≡ o → AreFilled es first names (met ++ n ∷ []) ns next) [
        | Some v ↦ λ g. let same = known_more v g in record {
          next_is = h.next_is ∙ ap (λ l. first + length l) (sym same);
          each = λ k m is. ap (λ l. number_by first es l m) same ∙ h.each k m is;
        }
        | None ↦ λ g. absurd (
            let z : number_by first es (unnumbered es met) n ≡ None = (λ i. or_next first (g i) (no_place i)) in
            let q : positive (get_or ns p 0) ≡ None = sym (h.each p n at) ∙ z in
            some (zero_of (get_or ns p 0) q))
      ] refl
    where
      zero_of : (v : ℕ) → positive v ≡ None → v ≡ 0
      zero_of zero e = refl
      zero_of (suc v) e = absurd cc

  -- a node that has none gets the next
  pub fills_new : rises name_cmp names ≡ true → 0 < first → (ns : List ℕ) (next p : ℕ) → p < length ns → slice_get names p ≡ Some n → get_or ns p 0 ≡ 0 → AreFilled es first names met ns next →
      AreFilled es first names (met ++ n ∷ []) (set ns p next) (next + 1)
  fills_new up above ns next p lt at zero_there h =
      let lacking : number_among es n ≡ None = none_was (number_among es n) (h.each p n at ∙ ap positive zero_there) in
      let more = new_more lacking in
      record {
        next_is = ap (λ k. k + 1) h.next_is ∙ (let z : first + length (unnumbered es met) + 1 ≡ first + length (unnumbered es met ++ n ∷ []) = omega (arith, length-append (unnumbered es met) (n ∷ [])) in z) ∙ ap (λ l. first + length l) (sym more);
        each = λ k m is. ap (λ l. number_by first es l m) more ∙ ap (or_next first (number_among es m)) (place_more m 0 (unnumbered es met) n)
            ∙ elim (same_name n m) as (λ b. same_name n m ≡ b → or_next first (number_among es m) (first_or (position_from (is_name m) 0 (unnumbered es met)) (cond b (Some (0 + length (unnumbered es met))) None)) ≡ positive (get_or (set ns p next) k 0)) [
              | true ↦ λ g.
                  let same : n ≡ m = same_name-is n m g in
                  let k_is : k ≡ p = names_apart names up k p m is (at ∙ ap Some same) in
                  (λ i. or_next first (number_among es (sym same i)) (first_or (position_from (is_name (sym same i)) 0 (unnumbered es met)) (Some (0 + length (unnumbered es met)))))
                  ∙ (λ i. or_next first (lacking i) (first_or (no_place i) (Some (0 + length (unnumbered es met)))))
                  ∙ ap Some (let z : first + (0 + length (unnumbered es met)) ≡ next = omega (arith, h.next_is) in z)
                  ∙ sym (positive_is next (omega (arith, h.next_is, above)))
                  ∙ ap positive (sym (ap (λ i. get_or (set ns p next) i 0) k_is ∙ get_or-set_same ns p next 0 lt))
              | false ↦ λ g. ap (or_next first (number_among es m)) (first_none (position_from (is_name m) 0 (unnumbered es met))) ∙ h.each k m is
                  ∙ ap positive (sym (get_or-set_other ns p k next 0 (λ q. let a : n ≡ m = some_is (sym at ∙ ap (slice_get names) (sym q) ∙ is) in let b = ap (same_name n) (sym a) ∙ same_name-self n in cc)))
            ] refl;
      }
    where
      none_was : (o : Option ℕ) → or_next first o (position_from (is_name n) 0 (unnumbered es met)) ≡ None → o ≡ None
      none_was None e = refl
      none_was (Some v) e = absurd cc

      first_none : (o : Option ℕ) → first_or o None ≡ o
      first_none None = refl
      first_none (Some v) = refl

-- what is found of known entries begins the filling
pub fills_begin : (es : Entries) (first : ℕ) (names : List NodeName) (ns : List ℕ) → AreNoted es names ns → AreFilled es first names [] ns first
fills_begin es first names ns h = record {
  next_is = (let z : first ≡ first + 0 = omega arith in z);
  each = λ k n is. known_first (number_among es n) ∙ h.each k n is;
}
  where
    known_first : (o : Option ℕ) → or_next first o None ≡ o
    known_first None = refl
    known_first (Some v) = refl

-- one element more behind a list
pub got_snoc : {X : Type 0} (xs : List X) (z : X) (k : ℕ) (e : X) → slice_get (xs ++ z ∷ []) k ≡ Some e → (slice_get xs k ≡ Some e) ⊎ ((k ≡ length xs) × (z ≡ e))
got_snoc [] z zero e h = inr (refl, some_is h)
got_snoc [] z (suc k) e h = absurd cc
got_snoc (x ∷ xs) z zero e h = inl h
got_snoc (x ∷ xs) z (suc k) e h = elim (got_snoc xs z k e h) [ inl g ↦ inl g | inr g ↦ inr (ap suc g.0, g.1) ]

pub numbered_more : (t : MarkedTree) (ns : List ℕ) (es es' : Entries) (place : ℕ) (n : Entry) (m : NodeMarks) (e : NumberedEntry) → length es ≡ place → AreNumbered t ns es → slice_get t.tree place ≡ Some n →
    slice_get t.marks place ≡ Some m → IsNumberedOf t.tree ns (get_or ns place 0) n m e → es' ≡ es ++ e ∷ [] → AreNumbered t ns es'
numbered_more t ns es es' place n m e long before at_n at_m told more = record {
  each = λ k x y z at_x at_y at_z.
      elim (got_snoc es e k z (ap (λ l. slice_get l k) (sym more) ∙ at_z)) [
        | inl old ↦ before.each k x y z at_x at_y old
        | inr new ↦
            let here : k ≡ place = new.0 ∙ long in
            let sx : n ≡ x = some_is (sym at_n ∙ ap (slice_get t.tree) (sym here) ∙ at_x) in
            let sy : m ≡ y = some_is (sym at_m ∙ ap (slice_get t.marks) (sym here) ∙ at_y) in
            subst (λ i. IsNumberedOf t.tree ns (get_or ns i 0) x y z) (sym here)
            (subst (λ w. IsNumberedOf t.tree ns (get_or ns place 0) w y z) sx (subst (λ w. IsNumberedOf t.tree ns (get_or ns place 0) n w z) sy (subst (IsNumberedOf t.tree ns (get_or ns place 0) n m) new.1 told)))
      ];
}

pub some_lent : {X : Type 0} (o : Option (Bor X)) (x : X) → option_copied o ≡ Some x → is_some o ≡ true
some_lent None x h = absurd cc
some_lent (Some b) x h = refl
