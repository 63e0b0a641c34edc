-- What was sent, as a set, and what is added to it.
use Rattle.std.specs.BTreeMap.{is_at}
use Rattle.std.specs.BTreeSet.{BTreeSet, contains, Updates}
use Rattle.std.specs.Cmp.{tied_itself}
use Rattle.std.specs.List.{list_any}
use Rattle.std.specs.Ordering.{is_eq}
use Rattle.std.specs.Prelude.{◌||◌, not, filter_map}
use Rattle.std.specs.declared.cmp.Ordering.{Ordering}
use Rattle.std.specs.declared.cmp.Ordering.TheVariants.{Less, Equal, Greater}
use Rattle.std.proofs.Common.{◌≡◌, ◌+◌, ◌<◌, ◌≤◌, ℕ, Bool, true, false, cond, Option, List, [], ◌∷◌, ◌++◌, get_or, length, take, refl, sym, ap, ◌∙◌, subst}
use Rattle.std.proofs.lemmas.List.{append-nil, append_assoc, take_all, take_more}
use Rattle.std.proofs.lemmas.List.Concat.{flat_map-append}
use Rattle.std.proofs.lemmas.List.Elements.{filter_map-append}
use Rattle.std.proofs.lemmas.List.Folds.{list_any-append}
use Rattle.mtn_base.specs.Ids.{by_id}
use Rattle.mtn_base.specs.Hex.{id_of}
use Rattle.mtn_base.specs.Names.{bytes_cmp, same_id}
use Rattle.mtn_base.specs.declared.id.Id.{Id}
use Rattle.mtn_base.proofs.Orders.{bytes_total, exact_bytes}
use Rattle.mtn_base.proofs.Tests.{same_id-is, same_id-self}
use Rattle.mtn_changes.specs.declared.change.Change.{Change}
use Rattle.mtn_changes.specs.declared.change.Edge.{Edge}
use Rattle.mtn_exports.specs.Exports.{new_to}
use Rattle.mtn_replay.specs.Making.{new_content, new_contents}
use Rattle.mtn_sending.specs.Sending.{Adds, IsSetOf}

-- ---- one id

id_same : (a b : Id) → bytes_cmp a.0 b.0 ≡ Equal → a ≡ b
id_same a b e = ap id_of (exact_bytes a.0 b.0 e)

is_equal : (r : Ordering) → is_eq r ≡ true → r ≡ Equal
is_equal Less e = absurd cc
is_equal Equal e = refl
is_equal Greater e = absurd cc

both_ways : (a b : Bool) → (a ≡ true → b ≡ true) → (b ≡ true → a ≡ true) → a ≡ b
both_ways true b forth back = sym (forth refl)
both_ways false true forth back = back refl
both_ways false false forth back = refl

-- the test of the set is that of ids
tests_alike : (id i : Id) → is_eq (by_id id i) ≡ same_id i id
tests_alike id i =
    both_ways (is_eq (by_id id i)) (same_id i id) (λ e. subst (λ (j : Id). same_id i j ≡ true) (sym (id_same id i (is_equal (by_id id i) e))) (same_id-self i))
    (λ e. ap is_eq (ap (λ (j : Id). by_id id j) (same_id-is i id e) ∙ tied_itself bytes_total id.0))

last_any : (test : Id → Bool) (id : Id) (a b : Bool) → test id ≡ a → cond a true b ≡ (b || list_any test (id ∷ []))
last_any test id true true e = refl
last_any test id true false e = sym (ap (λ x. x || false) e)
last_any test id false true e = refl
last_any test id false false e = sym (ap (λ x. x || false) e)

set_more : (sent now : BTreeSet Id) (ids : List Id) (id : Id) → Updates by_id sent now id true → IsSetOf sent ids → IsSetOf now (ids ++ id ∷ [])
set_more sent now ids id updates set i =
    updates.0 i ∙ (λ j. cond (tests_alike id i j) true (set i j)) ∙ last_any (same_id i) id (same_id i id) (list_any (same_id i) ids) refl ∙ sym (list_any-append (same_id i) ids (id ∷ []))

new_one : (before : List Id) (id : Id) (b : Bool) → list_any (same_id id) before ≡ b → new_to before (id ∷ []) ≡ cond b [] (id ∷ [])
new_one before id b e = ap (λ x. cond x [] (id ∷ [])) e

flipped : (a b : Bool) → b ≡ not a → a ≡ not b
flipped true b e = sym (ap not e)
flipped false b e = sym (ap not e)

-- a content that was not sent
pub adds_new : (sent now : BTreeSet Id) (files more : List Id) (id : Id) → true ≡ not (contains by_id sent id) → Updates by_id sent now id true → more ≡ files ++ id ∷ [] → Adds sent now files more (id ∷ [])
adds_new sent now files more id fresh updates pushed before set =
    let none : list_any (same_id id) (before ++ files) ≡ false = sym (set id) ∙ flipped (contains by_id sent id) true fresh in (
      subst (IsSetOf now) (append_assoc before files (id ∷ []) ∙ ap (λ l. before ++ l) (sym pushed)) (set_more sent now (before ++ files) id updates set),
      pushed ∙ ap (λ l. files ++ l) (sym (new_one (before ++ files) id false none)),
    )

-- one that was
pub adds_old : (sent now : BTreeSet Id) (files : List Id) (id : Id) → false ≡ not (contains by_id sent id) → ((q : Id) → contains by_id now q ≡ contains by_id sent q) → Adds sent now files files (id ∷ [])
adds_old sent now files id known same before set =
    let some : list_any (same_id id) (before ++ files) ≡ true = sym (set id) ∙ flipped (contains by_id sent id) false known in
    (λ i. same i ∙ set i, sym (append-nil files) ∙ ap (λ l. files ++ l) (sym (new_one (before ++ files) id true some)))

-- ---- one after the other

new_more_by : (before : List Id) (id : Id) (xs ys : List Id) (b : Bool) → new_to before (xs ++ ys) ≡ new_to before xs ++ new_to (before ++ new_to before xs) ys →
    new_to (before ++ id ∷ []) (xs ++ ys) ≡ new_to (before ++ id ∷ []) xs ++ new_to ((before ++ id ∷ []) ++ new_to (before ++ id ∷ []) xs) ys →
    cond b (new_to before (xs ++ ys)) (id ∷ new_to (before ++ id ∷ []) (xs ++ ys)) ≡
    cond b (new_to before xs) (id ∷ new_to (before ++ id ∷ []) xs) ++ new_to (before ++ cond b (new_to before xs) (id ∷ new_to (before ++ id ∷ []) xs)) ys
new_more_by before id xs ys true old new = old
new_more_by before id xs ys false old new =
    ap (λ l. id ∷ l) (new ∙ ap (λ l. new_to (before ++ id ∷ []) xs ++ new_to l ys) (append_assoc before (id ∷ []) (new_to (before ++ id ∷ []) xs)))

new_more : (before xs ys : List Id) → new_to before (xs ++ ys) ≡ new_to before xs ++ new_to (before ++ new_to before xs) ys
new_more before [] ys = ap (λ l. new_to l ys) (sym (append-nil before))
new_more before (id ∷ xs) ys = new_more_by before id xs ys (list_any (same_id id) before) (new_more before xs ys) (new_more (before ++ id ∷ []) xs ys)

pub adds_none : (sent : BTreeSet Id) (files : List Id) → Adds sent sent files files []
adds_none sent files before set = (set, sym (append-nil files))

pub adds_on : (sent mid now : BTreeSet Id) (files some more xs ys : List Id) → Adds sent mid files some xs → Adds mid now some more ys → Adds sent now files more (xs ++ ys)
adds_on sent mid now files some more xs ys first later before set =
    let a = first before set in
    let b = later before a.0 in (
      b.0,
      b.1
          ∙ (λ i. a.1 i ++ new_to (before ++ a.1 i) ys)
          ∙ append_assoc files (new_to (before ++ files) xs) (new_to (before ++ (files ++ new_to (before ++ files) xs)) ys)
          ∙ ap (λ l. files ++ (new_to (before ++ files) xs ++ new_to l ys)) (sym (append_assoc before files (new_to (before ++ files) xs)))
          ∙ ap (λ l. files ++ l) (sym (new_more (before ++ files) xs ys)),
    )

-- ---- changes and edges

pub adds_brought : (sent now : BTreeSet Id) (files more : List Id) (x : Change) (o : Option Id) → o ≡ new_content x → Adds sent now files more (filter_map (λ (i : Option Id). i) (o ∷ [])) → Adds sent now files more (filter_map new_content (x ∷ []))
adds_brought sent now files more x o is adds = subst (λ i. Adds sent now files more (filter_map (λ (i : Option Id). i) (i ∷ []))) is adds

pub adds_change : (sent mid now : BTreeSet Id) (files some more : List Id) (changes : List Change) (i : ℕ) (x : Change) → i < length changes → x ≡ get_or changes i x →
    Adds sent mid files some (filter_map new_content (take i changes)) → Adds mid now some more (filter_map new_content (x ∷ [])) → Adds sent now files more (filter_map new_content (take (i + 1) changes))
adds_change sent mid now files some more changes i x lt is first later =
    subst (Adds sent now files more)
    (sym (ap (filter_map new_content) (take_more changes i x lt ∙ ap (λ y. take i changes ++ y ∷ []) (sym is)) ∙ filter_map-append new_content (take i changes) (x ∷ [])))
    (adds_on sent mid now files some more (filter_map new_content (take i changes)) (filter_map new_content (x ∷ [])) first later)

pub all_changes : (sent now : BTreeSet Id) (files more : List Id) (changes : List Change) (i : ℕ) → length changes ≤ i → Adds sent now files more (filter_map new_content (take i changes)) → Adds sent now files more (filter_map new_content changes)
all_changes sent now files more changes i le adds = subst (λ cs. Adds sent now files more (filter_map new_content cs)) (take_all i changes le) adds

contents_more : (edges : List Edge) (i : ℕ) (x : Edge) → i < length edges → x ≡ get_or edges i x → new_contents (take (i + 1) edges) ≡ new_contents (take i edges) ++ filter_map new_content x.changes
contents_more edges i x lt is =
    ap new_contents (take_more edges i x lt ∙ ap (λ y. take i edges ++ y ∷ []) (sym is))
    ∙ flat_map-append (λ (e : Edge). filter_map new_content e.changes) (take i edges) (x ∷ [])
    ∙ ap (λ l. new_contents (take i edges) ++ l) (append-nil (filter_map new_content x.changes))

pub adds_edge : (sent mid now : BTreeSet Id) (some more : List Id) (edges : List Edge) (i : ℕ) (x : Edge) (changes : List Change) → i < length edges → x ≡ get_or edges i x → changes ≡ x.changes →
    Adds sent mid [] some (new_contents (take i edges)) → Adds mid now some more (filter_map new_content changes) → Adds sent now [] more (new_contents (take (i + 1) edges))
adds_edge sent mid now some more edges i x changes lt is own first later =
    subst (Adds sent now [] more) (ap (λ cs. new_contents (take i edges) ++ filter_map new_content cs) own ∙ sym (contents_more edges i x lt is))
    (adds_on sent mid now [] some more (new_contents (take i edges)) (filter_map new_content changes) first later)

-- nothing was sent yet
pub set_none : (sent : BTreeSet Id) → sent.keys ≡ [] → IsSetOf sent []
set_none sent empty i = ap (λ (ks : List Id). list_any (is_at (by_id i)) ks) empty
