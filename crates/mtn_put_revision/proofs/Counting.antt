-- How many records are asked for.
use Rattle.std.specs.Prelude.{slice_get, Result, Ok, Err}
use Rattle.std.proofs.Common.{◌≡◌, ◌≤◌, ◌+◌, ◌-◌, ℕ, List, [], ◌∷◌, ◌++◌, length, length-append, take, Option, Some, None, sym, ap, ◌∙◌, subst, arith}
use Rattle.std.specs.List.{cons_option}
use Rattle.mtn_base.specs.declared.id.Id.{Id}
use Rattle.mtn_changes.specs.declared.change.Change.{Change}
use Rattle.mtn_changes.specs.declared.change.Edge.{Edge}
use Rattle.mtn_changes.specs.RevisionText.{AreEdges}
use Rattle.mtn_history.specs.Stands.{IsFounded}
use Rattle.mtn_history.specs.declared.errors.StoreError.{StoreError}
use Rattle.mtn_history.specs.declared.pending.Pending.{Pending}
use Rattle.mtn_model.specs.State.{State}
use Rattle.mtn_model.specs.Table.{Contents}
use Rattle.mtn_replay.specs.Making.{new_content, new_contents}
use Rattle.mtn_put_revision.specs.Reads.{IsBoundOf, LooksFew, brought}
use Rattle.mtn_put_revision.proofs.Looking.{map_append, split_at}

-- the contents of some changes, and of some more
brought_append : (cs ds : List Change) → length (brought (cs ++ ds)) ≡ length (brought cs) + length (brought ds)
brought_append cs ds = ap length (map_append new_content cs ds) ∙ length-append (brought cs) (brought ds)

pub brought_more : (cs : List Change) (i : ℕ) (c : Change) → slice_get cs i ≡ Some c → length (brought (take (i + 1) cs)) ≡ length (brought (take i cs)) + length (brought (c ∷ []))
brought_more cs i c at = let s = split_at cs i c at in ap (λ l. length (brought l)) s.2 ∙ brought_append (take i cs) (c ∷ [])

pub brought_within : (cs : List Change) (i : ℕ) (c : Change) → slice_get cs i ≡ Some c → length (brought (take i cs)) + length (brought (c ∷ [])) ≤ length (brought cs)
brought_within cs i c at =
    let s = split_at cs i c at in
    let all = ap (λ l. length (brought l)) s.1 ∙ brought_append (take i cs) (c ∷ s.0) in
    let rest : length (brought (c ∷ s.0)) ≡ length (brought (c ∷ [])) + length (brought s.0) = brought_append (c ∷ []) s.0 in
    omega (arith, all, rest)

-- those of some edges, and of some more
contents_append : (es gs : List Edge) → length (new_contents (es ++ gs)) ≡ length (new_contents es) + length (new_contents gs)
contents_append [] gs = omega arith
contents_append (e ∷ es) gs =
    let more = contents_append es gs in
    omega (arith, length-append (brought e.changes) (new_contents (es ++ gs)), length-append (brought e.changes) (new_contents es), more)

contents_one : (e : Edge) → length (new_contents (e ∷ [])) ≡ length (brought e.changes)
contents_one e = omega (arith, length-append (brought e.changes) (new_contents []))

pub contents_more : (es : List Edge) (i : ℕ) (e : Edge) → slice_get es i ≡ Some e → length (new_contents (take (i + 1) es)) ≡ length (new_contents (take i es)) + length (brought e.changes)
contents_more es i e at =
    let s = split_at es i e at in
    ap (λ l. length (new_contents l)) s.2 ∙ contents_append (take i es) (e ∷ []) ∙ ap (λ n. length (new_contents (take i es)) + n) (contents_one e)

pub contents_within : (es : List Edge) (i : ℕ) (e : Edge) → slice_get es i ≡ Some e → length (new_contents (take i es)) + length (brought e.changes) ≤ length (new_contents es)
contents_within es i e at =
    let s = split_at es i e at in
    let all = ap (λ l. length (new_contents l)) s.1 ∙ contents_append (take i es) (e ∷ s.0) in
    let rest : length (new_contents (e ∷ s.0)) ≡ length (new_contents (e ∷ [])) + length (new_contents s.0) = contents_append (e ∷ []) s.0 in
    omega (arith, all, rest, contents_one e)

-- a search that ends with one of several parts, and one that goes on
pub looks_last : (before mid now a b many : ℕ) (r : Result (Option Id) StoreError) → LooksFew mid now b r → mid ≤ before + a → a + b ≤ many → now ≤ before + many + 1
looks_last before mid now a b many (Ok None) few so_far within = omega (arith, few, so_far, within)
looks_last before mid now a b many (Ok (Some id)) few so_far within = omega (arith, few, so_far, within)
looks_last before mid now a b many (Err e) few so_far within = omega (arith, few, so_far, within)

pub looks_on : (before mid now a b : ℕ) (o : Option Id) → o ≡ None → LooksFew mid now b (Ok o) → mid ≤ before + a → now ≤ before + (a + b)
looks_on before mid now a b o none few so_far = let plain = subst (λ (x : Option Id). LooksFew mid now b (Ok x)) none few in omega (arith, plain, so_far)

pub looks_most : (before now many : ℕ) (r : Result (Option Id) StoreError) → LooksFew before now many r → now ≤ before + (many + 1)
looks_most before now many (Ok None) few = omega (arith, few)
looks_most before now many (Ok (Some id)) few = omega (arith, few)
looks_most before now many (Err e) few = omega (arith, few)

pub looks_none : (before now many : ℕ) (o : Option Id) → o ≡ None → LooksFew before now many (Ok o) → now ≤ before + many
looks_none before now many o none few = subst (λ (x : Option Id). LooksFew before now many (Ok x)) none few

-- the content of one change
pub brought_one : (c : Change) (id : Id) → new_content c ≡ Some id → length (brought (c ∷ [])) ≡ 1
brought_one c id is = ap (λ o. length (cons_option o [])) is

-- the same bound behind some reads
pub bound_behind : (k m : ℕ) (f : List ℕ → List ℕ) (s : State) (text : List ℕ) (n : ℕ) → IsBoundOf (m + k) f s text n → IsBoundOf m f s text (n - k)
bound_behind k m f s text n b = record {
  least = let l = b.least in omega (arith, l);
  known = λ h r spelled spells held. let w = b.known h r spelled spells held in (w.0, w.1, let l = w.2 in omega (arith, l));
}

-- the same where what is pending has another name
pub as_pending : (f : List ℕ → List ℕ) (told : Option Contents) (p q : Pending) (s : State) → q ≡ p → IsFounded f told p s → IsFounded f told q s
as_pending f told p q s is d = subst (λ (x : Pending). IsFounded f told x s) (sym is) d

-- a revision has two edges at most
pub two_edges : (edges : List Edge) → AreEdges edges → length edges ≤ 2
two_edges [] lawful = absurd lawful
two_edges (e ∷ []) lawful = omega arith
two_edges (e ∷ f ∷ []) lawful = omega arith
two_edges (e ∷ f ∷ g ∷ more) lawful = absurd lawful
