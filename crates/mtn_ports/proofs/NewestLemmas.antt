-- The place of the newest record under a key, as records are put and taken away at the end.
use Rattle.std.proofs.Common.{◌≡◌, ℕ, suc, ◌<◌, Bool, true, false, cond, ◌&&◌, eqb, List, [], ◌∷◌, ◌++◌, length, get_or, Option, Some, None, option_map, refl, sym, ap, ◌∙◌, arith, append_assoc, append-nil, eqb-true, eq-eqb}
use Rattle.std.specs.Prelude.{bytes_eq, slice_get, IsSome}
use Rattle.std.specs.FinMap.{get-empty}
use Rattle.std.specs.Ordering.{nat_cmp}
use Rattle.std.specs.Cmp.Lexicographic.{slice_cmp}
use Rattle.std.proofs.lemmas.Slice.Eq.{bytes_eq-Decides}
use Rattle.std.proofs.lemmas.Option.{slice_get-get_or}
use Rattle.mtn_model.specs.Table.{body_at, nothing}
use Rattle.mtn_ports.specs.declared.batch.Put.{Put}
use Rattle.mtn_ports.specs.declared.index.Index.{Index}
use Rattle.mtn_ports.specs.Kept.{with_all, over, LeastOf, IsLeast}
use Rattle.mtn_ports.specs.Newest.{is_under, next_place, newest_place, stood_over, place_in, SetsPlace, IsIndexOf}
use Rattle.mtn_ports.proofs.KeptLemmas.{newest, body_at-over}

-- ---- one record more at the end

next_if : (b : Bool) (n : ℕ) (o : Option ℕ) (here : Bool) → next_place (cond b (Some n) o) here ≡ cond b (Some (suc n)) (next_place o here)
next_if true n o here = refl
next_if false n o here = refl

only : (here : Bool) → next_place None here ≡ cond here (Some 0) None
only true = refl
only false = refl

pub newest_place-append : (table : ℕ) (key : List ℕ) (ps : List Put) (p : Put) →
    newest_place table key (ps ++ p ∷ []) ≡ cond (is_under table key p) (Some (length ps)) (newest_place table key ps)
newest_place-append table key [] p = only (is_under table key p)
newest_place-append table key (q ∷ ps) p =
    ap (λ o. next_place o (is_under table key q)) (newest_place-append table key ps p)
    ∙ next_if (is_under table key p) (length ps) (newest_place table key ps) (is_under table key q)

pub stood_over-append : (before ps : List Put) (p : Put) →
    stood_over before (ps ++ p ∷ []) ≡ stood_over before ps ++ newest_place p.table p.key (before ++ ps) ∷ []
stood_over-append before [] p = ap (λ qs. newest_place p.table p.key qs ∷ []) (sym (append-nil before))
stood_over-append before (q ∷ ps) p =
    ap (λ os. newest_place q.table q.key before ∷ os)
    (stood_over-append (before ++ q ∷ []) ps p ∙ ap (λ qs. stood_over (before ++ q ∷ []) ps ++ newest_place p.table p.key qs ∷ []) (append_assoc before (q ∷ []) ps))

pub index_push : (old new : Index) (ps qs : List Put) (p : Put) (n : ℕ) → IsIndexOf old ps → n ≡ length ps →
    SetsPlace old new p.table p.key (Some n) → qs ≡ ps ++ p ∷ [] → IsIndexOf new qs
index_push old new ps qs p n is at sets all table key =
    sets table key
    ∙ ap (λ o. cond (is_under table key p) (Some n) o) (is table key)
    ∙ ap (λ m. cond (is_under table key p) (Some m) (newest_place table key ps)) at
    ∙ sym (newest_place-append table key ps p)
    ∙ ap (newest_place table key) (sym all)

pub older_push : (olds news : List (Option ℕ)) (o : Option ℕ) (ps qs : List Put) (p : Put) → olds ≡ stood_over [] ps →
    o ≡ newest_place p.table p.key ps → news ≡ olds ++ o ∷ [] → qs ≡ ps ++ p ∷ [] → news ≡ stood_over [] qs
older_push olds news o ps qs p are is more all =
    more
    ∙ ap (λ os. os ++ o ∷ []) are
    ∙ ap (λ x. stood_over [] ps ++ x ∷ []) is
    ∙ sym (stood_over-append [] ps p)
    ∙ ap (stood_over []) (sym all)

-- ---- the last record taken away

front : {X : Type 0} (xs ys : List X) (x y : X) → xs ++ x ∷ [] ≡ ys ++ y ∷ [] → xs ≡ ys
front [] [] x y e = refl
front [] (b ∷ []) x y e = cc
front [] (b ∷ c ∷ ys) x y e = cc
front (a ∷ []) [] x y e = cc
front (a ∷ c ∷ xs) [] x y e = cc
front (a ∷ xs) (b ∷ ys) x y e =
    let first : a ≡ b = cc in
    let rest : xs ++ x ∷ [] ≡ ys ++ y ∷ [] = cc in
    let same = front xs ys x y rest in
    cc

last : {X : Type 0} (xs ys : List X) (x y : X) → xs ++ x ∷ [] ≡ ys ++ y ∷ [] → x ≡ y
last [] [] x y e = cc
last [] (b ∷ []) x y e = cc
last [] (b ∷ c ∷ ys) x y e = cc
last (a ∷ []) [] x y e = cc
last (a ∷ c ∷ xs) [] x y e = cc
last (a ∷ xs) (b ∷ ys) x y e =
    let rest : xs ++ x ∷ [] ≡ ys ++ y ∷ [] = cc in
    last xs ys x y rest

itself : (p : Put) → is_under p.table p.key p ≡ true
itself p = ap (λ b. b && bytes_eq p.key p.key) (eq-eqb p.table p.table refl) ∙ (bytes_eq-Decides p.key p.key).1 refl

-- what a record stands over is what the records before it have under its key
pub older_pop : (olds rest : List (Option ℕ)) (o : Option ℕ) (qs ps : List Put) (p : Put) → olds ≡ stood_over [] qs → olds ≡ rest ++ o ∷ [] → qs ≡ ps ++ p ∷ [] →
    rest ≡ stood_over [] ps
older_pop olds rest o qs ps p are ends all =
    front rest (stood_over [] ps) o (newest_place p.table p.key ps) (sym ends ∙ are ∙ ap (stood_over []) all ∙ stood_over-append [] ps p)

older_last : (olds rest : List (Option ℕ)) (o : Option ℕ) (qs ps : List Put) (p : Put) → olds ≡ stood_over [] qs → olds ≡ rest ++ o ∷ [] → qs ≡ ps ++ p ∷ [] →
    o ≡ newest_place p.table p.key ps
older_last olds rest o qs ps p are ends all =
    last rest (stood_over [] ps) o (newest_place p.table p.key ps) (sym ends ∙ are ∙ ap (stood_over []) all ∙ stood_over-append [] ps p)

restored : (b t : Bool) (table : ℕ) (key : List ℕ) (ps : List Put) (p : Put) (o x : Option ℕ) → b ≡ eqb p.table table → t ≡ bytes_eq key p.key →
    o ≡ newest_place p.table p.key ps → cond (b && t) o (cond (b && t) x (newest_place table key ps)) ≡ newest_place table key ps
restored true true table key ps p o x same_table same_key is =
    is ∙ ap (λ n. newest_place n p.key ps) (eqb-true p.table table (sym same_table)) ∙ ap (λ k. newest_place table k ps) (sym ((bytes_eq-Decides key p.key).0 (sym same_key)))
restored true false table key ps p o x same_table same_key is = refl
restored false t table key ps p o x same_table same_key is = refl

pub index_pop : (old new : Index) (olds rest : List (Option ℕ)) (o : Option ℕ) (qs ps : List Put) (p : Put) → IsIndexOf old qs → olds ≡ stood_over [] qs → olds ≡ rest ++ o ∷ [] →
    qs ≡ ps ++ p ∷ [] → SetsPlace old new p.table p.key o → IsIndexOf new ps
index_pop old new olds rest o qs ps p is are ends all sets table key =
    sets table key
    ∙ ap (λ x. cond (is_under table key p) o x) (is table key ∙ ap (newest_place table key) all ∙ newest_place-append table key ps p)
    ∙ restored (eqb p.table table) (bytes_eq key p.key) table key ps p o (Some (length ps)) refl refl (older_last olds rest o qs ps p are ends all)

-- the key of the last record is in the index
pub last_is_in : (index : Index) (qs ps : List Put) (p : Put) (table : ℕ) (key : List ℕ) → IsIndexOf index qs → qs ≡ ps ++ p ∷ [] → table ≡ p.table → key ≡ p.key → IsSome (place_in index table key)
last_is_in index qs ps p table key is all same_table same_key =
    let here : place_in index p.table p.key ≡ Some (length ps) =
    is p.table p.key ∙ ap (newest_place p.table p.key) all ∙ newest_place-append p.table p.key ps p ∙ ap (λ b. cond b (Some (length ps)) (newest_place p.table p.key ps)) (itself p) in
    let there : place_in index table key ≡ Some (length ps) = ap (λ t. place_in index t key) same_table ∙ ap (place_in index p.table) same_key ∙ here in
    rw there refl

-- ---- what stands at the place

next_below : (o : Option ℕ) (here : Bool) (place n : ℕ) → ((i : ℕ) → o ≡ Some i → i < n) → next_place o here ≡ Some place → place < suc n
next_below (Some i) here place n below is = let low : i < n = below i refl in let same : suc i ≡ place = cc in omega arith
next_below None true place n below is = let same : 0 ≡ place = cc in omega arith
next_below None false place n below is = cc

pub newest_place-below : (table : ℕ) (key : List ℕ) (ps : List Put) (place : ℕ) → newest_place table key ps ≡ Some place → place < length ps
newest_place-below table key [] place is = cc
newest_place-below table key (p ∷ ps) place is =
    next_below (newest_place table key ps) (is_under table key p) place (length ps) (λ i at. newest_place-below table key ps i at) is

-- the body at a place
body_of : List Put → Option ℕ → Option (List ℕ)
body_of ps None = None
body_of ps (Some place) = option_map (λ p. p.body) (slice_get ps place)

one_more : (p : Put) (ps : List Put) (o : Option ℕ) (here : Bool) (found : Option (List ℕ)) → ((i : ℕ) → o ≡ Some i → i < length ps) →
    over (body_of ps o) (cond here (Some p.body) found) ≡ over (body_of (p ∷ ps) (next_place o here)) found
unfolding body_of
one_more p ps (Some i) here found below =
    let at = slice_get-get_or ps i p (below i refl) in
    ap (λ x. over (option_map (λ q. q.body) x) (cond here (Some p.body) found)) at ∙ sym (ap (λ x. over (option_map (λ q. q.body) x) found) at)
one_more p ps None true found below = refl
one_more p ps None false found below = refl

newest_is : (table : ℕ) (key : List ℕ) (found : Option (List ℕ)) (ps : List Put) → newest table key found ps ≡ over (body_of ps (newest_place table key ps)) found
unfolding body_of
newest_is table key found [] = refl
newest_is table key found (p ∷ ps) =
    newest_is table key (cond (is_under table key p) (Some p.body) found) ps
    ∙ one_more p ps (newest_place table key ps) (is_under table key p) found (λ i at. newest_place-below table key ps i at)

pub newest_none : (table : ℕ) (key : List ℕ) (ps : List Put) → newest_place table key ps ≡ None → newest table key None ps ≡ None
unfolding body_of
newest_none table key ps is = newest_is table key None ps ∙ ap (λ o. over (body_of ps o) None) is

newest_at : (table : ℕ) (key : List ℕ) (ps : List Put) (place : ℕ) (p : Put) → newest_place table key ps ≡ Some place → slice_get ps place ≡ Some p →
    newest table key None ps ≡ Some p.body
unfolding body_of
newest_at table key ps place p is at =
    newest_is table key None ps ∙ ap (λ o. over (body_of ps o) None) is ∙ ap (λ x. over (option_map (λ q. q.body) x) None) at

pub newest_some : (table : ℕ) (key : List ℕ) (ps : List Put) (place : ℕ) (p : Put) → newest_place table key ps ≡ Some place → p ≡ get_or ps place p →
    newest table key None ps ≡ Some p.body
newest_some table key ps place p is at =
    newest_at table key ps place p is (slice_get-get_or ps place p (newest_place-below table key ps place is) ∙ ap Some (sym at))

newest_there : (table : ℕ) (key : List ℕ) (ps : List Put) (place : ℕ) → newest_place table key ps ≡ Some place → (body : List ℕ) × (newest table key None ps ≡ Some body)
newest_there table key [] place is = cc
newest_there table key (p ∷ ps) place is =
    let q = get_or (p ∷ ps) place p in
    (q.body, newest_at table key (p ∷ ps) place q is (slice_get-get_or (p ∷ ps) place p (newest_place-below table key (p ∷ ps) place is)))

-- ---- the least key

least_by : {X Y : Type 0} (f : List ℕ → Option X) (g : List ℕ → Option Y) (after : List ℕ) (found : Option (List ℕ)) →
    ((k : List ℕ) → f k ≡ None → g k ≡ None) → ((k : List ℕ) (x : X) → f k ≡ Some x → (y : Y) × (g k ≡ Some y)) → LeastOf f after found → LeastOf g after found
least_by f g after None none some is = λ other above. none other (is other above)
least_by f g after (Some key) none some is = (is.0, some key is.1.0 is.1.1, λ other above below. none other (is.2 other above below))

-- a key that the index has, has a body among the records
pub least_in_index : (index : Index) (ps : List Put) (table : ℕ) (after : List ℕ) (found : Option (List ℕ)) → IsIndexOf index ps → LeastOf (place_in index table) after found →
    IsLeast (with_all nothing ps) table after found
least_in_index index ps table after found is least =
    least_by (place_in index table) (body_at (with_all nothing ps) table) after found
    (λ k at. body k ∙ ap (λ x. over x None) (newest_none table k ps (sym (is table k) ∙ at)))
    (λ k place at. let there = newest_there table k ps place (sym (is table k) ∙ at) in (there.0, body k ∙ ap (λ x. over x None) there.1))
    least
  where
    body : (k : List ℕ) → body_at (with_all nothing ps) table k ≡ over (newest table k None ps) None
    body k = body_at-over nothing ps table k ∙ ap (over (newest table k None ps)) (get-empty (slice_cmp nat_cmp) k)
