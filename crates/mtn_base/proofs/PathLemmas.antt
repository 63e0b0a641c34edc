-- A path and its text, piece by piece.
use Rattle.std.proofs.Common.{◌≡◌, ℕ, ◌+◌, ◌-◌, ◌<◌, Bool, true, false, cond, nat_lt, get_or, Option, Some, None, List, [], ◌∷◌, ◌++◌, length, take, drop, refl, sym, ap, ◌∙◌, subst, inl, inr, append_assoc, arith}
use Rattle.std.specs.Prelude.{◌==◌, not, position, All}
use Rattle.std.proofs.lemmas.Bool.{ltb-true, ltb-false}
use Rattle.std.proofs.lemmas.List.Elements.{All-from_get_or}
use Rattle.std.proofs.lemmas.List.Sums.{prefix_len_passes}
use Rattle.std.specs.List.{position_or_len}
use Rattle.std.proofs.lemmas.List.{append-nil, take_rest, length-drop}
use Rattle.std.proofs.lemmas.List.Splits.{slice_split_first, slice_split_none}
use Rattle.mtn_base.specs.Comps.{IsComp, AreComps}
use Rattle.mtn_base.specs.Paths.{path_text, pieces_of, IsCompFault, IsFirstFault, FirstPiece}
use Rattle.mtn_base.specs.declared.path.PathError.{PathError}

-- of all pieces, those before the rest are the components that a path was given
pub record Taken (old new all rest : List (List ℕ)) : Type 0 where
  pub before : List (List ℕ)
  pub path : new ≡ old ++ before
  pub pieces : before ++ rest ≡ all
  pub lawful : AreComps before

pub AreComps-push : (cs : List (List ℕ)) (c : List ℕ) → AreComps cs → IsComp c → AreComps (cs ++ c ∷ [])
AreComps-push [] c all is = (is, tt)
AreComps-push (d ∷ cs) c all is = (all.0, AreComps-push cs c all.1 is)

-- the first fault stands behind components
pub fault_behind : (e : PathError) (before rest : List (List ℕ)) → AreComps before → IsFirstFault e rest → IsFirstFault e (before ++ rest)
fault_behind e [] rest all fault = fault
fault_behind e (c ∷ before) rest all fault = inr (all.0, fault_behind e before rest all.1 fault)

-- the text of a path with one component more
pub path_text-push : (d : List ℕ) (cs : List (List ℕ)) (c : List ℕ) → path_text ((d ∷ cs) ++ c ∷ []) ≡ path_text (d ∷ cs) ++ (47 ∷ c)
path_text-push d [] c = refl
path_text-push d (e ∷ cs) c = ap (λ xs. d ++ (47 ∷ xs)) (path_text-push e cs c) ∙ sym (append_assoc d (47 ∷ path_text (e ∷ cs)) (47 ∷ c))

pub nothing_taken : (old all : List (List ℕ)) → Taken old old all all
nothing_taken old all = record { before = []; path = sym (append-nil old); pieces = refl; lawful = tt }

-- one piece more
pub taken_more : (old mid new all rest more : List (List ℕ)) (c d : List ℕ) → Taken old mid all rest → rest ≡ d ∷ more → c ≡ d → IsComp d → new ≡ mid ++ c ∷ [] → Taken old new all more
taken_more old mid new all rest more c d taken cut same is push = record {
  before = taken.before ++ c ∷ [];
  path = push ∙ ap (λ xs. xs ++ c ∷ []) taken.path ∙ append_assoc old taken.before (c ∷ []);
  pieces = append_assoc taken.before (c ∷ []) more ∙ ap (λ x. taken.before ++ (x ∷ more)) same ∙ ap (λ xs. taken.before ++ xs) (sym cut) ∙ taken.pieces;
  lawful = AreComps-push taken.before c taken.lawful (subst IsComp (sym same) is);
}

pub fault_at : (e : PathError) (old mid all rest : List (List ℕ)) → Taken old mid all rest → IsFirstFault e rest → IsFirstFault e all
fault_at e old mid all rest taken fault = subst (IsFirstFault e) taken.pieces (fault_behind e taken.before rest taken.lawful fault)

abbrev is_slash : ℕ → Bool
is_slash b = b == 47

some_place : (t : Bool) (place n : ℕ) → cond t (Some place) None ≡ Some n → (t ≡ true) × (place ≡ n)
some_place true place n e = let same : place ≡ n = cc in (refl, same)
some_place false place n e = absurd cc

from_not : (b : Bool) → not b ≡ true → b ≡ false
from_not true e = absurd cc
from_not false e = refl

no_place : (t : Bool) (place : ℕ) → cond t (Some place) None ≡ None → t ≡ false
no_place true place e = absurd cc
no_place false place e = refl

-- where the first slash stands
pub place_of : (text : List ℕ) (n : ℕ) → position is_slash text ≡ Some n → (n < length text) × (pieces_of text ≡ take n text ∷ pieces_of (drop (n + 1) text))
place_of text n e =
    let found = some_place (nat_lt (position_or_len is_slash text) (length text)) (position_or_len is_slash text) n e in
    let inside : position_or_len is_slash text < length text = ltb-true _ _ found.0 in
    let cut = slice_split_first is_slash text 0 inside in
    (rw found.1 at inside, rw found.1 at cut)

pub first_of_some : (text : List ℕ) (n : ℕ) → position is_slash text ≡ Some n →
    (pieces_of text ≡ take n text ∷ pieces_of (take (length text - (n + 1)) (drop (n + 1) text))) × (length (take (length text - (n + 1)) (drop (n + 1) text)) < length text)
first_of_some text n e = let found = place_of text n e in rw take_rest (found.1, omega (arith, length-drop (n + 1) text, found.0))

pub first_of_none : (text : List ℕ) → position is_slash text ≡ None → pieces_of text ≡ text ∷ []
first_of_none text e = slice_split_none is_slash text (none_before text (no_place (nat_lt (position_or_len is_slash text) (length text)) (position_or_len is_slash text) e))
  where
    none_before : (xs : List ℕ) → nat_lt (position_or_len is_slash xs) (length xs) ≡ false → All (λ x. is_slash x ≡ false) xs
    none_before xs e = All-from_get_or (λ x. is_slash x ≡ false) xs 0
        (λ k inside. let early : k < position_or_len is_slash xs = omega (arith, ltb-false (position_or_len is_slash xs) (length xs) e) in
        from_not (is_slash (get_or xs k 0)) (prefix_len_passes (λ x. not (is_slash x)) xs k 0 early))

-- the text of some components and one more, in two steps
pub written_more : (cs : List (List ℕ)) (c out mid new : List ℕ) → mid ≡ (out ++ path_text cs) ++ 47 ∷ [] → 0 < length cs → new ≡ mid ++ c → new ≡ out ++ path_text (cs ++ c ∷ [])
written_more [] c out mid new slash some added = absurd (omega arith)
written_more (d ∷ cs) c out mid new slash some added =
    added ∙ ap (λ xs. xs ++ c) slash ∙ append_assoc (out ++ path_text (d ∷ cs)) (47 ∷ []) c ∙ append_assoc out (path_text (d ∷ cs)) (47 ∷ c) ∙ ap (λ xs. out ++ xs) (sym (path_text-push d cs c))

pub written_first : (cs : List (List ℕ)) (c out mid new : List ℕ) → mid ≡ out ++ path_text cs → length cs ≡ 0 → new ≡ mid ++ c → new ≡ out ++ path_text (cs ++ c ∷ [])
written_first [] c out mid new same none added = added ∙ ap (λ xs. xs ++ c) (same ∙ append-nil out)
written_first (d ∷ cs) c out mid new same none added = absurd (omega arith)

-- a fault of the first piece
pub piece_fault : (e : PathError) (text piece : List ℕ) (more : Option (List ℕ)) → FirstPiece text piece more → IsCompFault e piece → IsFirstFault e (pieces_of text)
piece_fault e text piece None first fault = rw first (inl fault)
piece_fault e text piece (Some rest) first fault = rw first.0 (inl fault)

pub all_lawful : (old new all rest : List (List ℕ)) (c : List ℕ) → Taken old new all rest → rest ≡ c ∷ [] → IsComp c → AreComps all
all_lawful old new all rest c taken last is = subst AreComps (ap (λ xs. taken.before ++ xs) (sym last) ∙ taken.pieces) (AreComps-push taken.before c taken.lawful is)

pub all_taken : (old mid new all rest : List (List ℕ)) (c : List ℕ) → Taken old mid all rest → rest ≡ c ∷ [] → new ≡ mid ++ c ∷ [] → new ≡ old ++ all
all_taken old mid new all rest c taken last push =
    push ∙ ap (λ xs. xs ++ c ∷ []) taken.path ∙ append_assoc old taken.before (c ∷ []) ∙ ap (λ xs. old ++ (taken.before ++ xs)) (sym last) ∙ ap (λ xs. old ++ xs) taken.pieces
