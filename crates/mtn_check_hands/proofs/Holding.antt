-- Contents that are held, one more after the other.
use Rattle.std.specs.Prelude.{IfSome, IsSome, IsTrue, option_map, slice_get}
use Rattle.std.specs.List.{cons_option}
use Rattle.std.proofs.Common.{◌≡◌, ◌≤◌, ◌+◌, ℕ, Bool, true, false, List, [], ◌∷◌, ◌++◌, length, take, Option, Some, None, refl, sym, ap, ◌∙◌, subst}
use Rattle.std.proofs.lemmas.List.{take_all}
use Rattle.mtn_base.specs.declared.id.Id.{Id}
use Rattle.mtn_base.specs.declared.refusal.Cause.TheVariants.{UnknownFile}
use Rattle.mtn_changes.specs.declared.change.Change.{Change}
use Rattle.mtn_changes.specs.declared.change.Edge.{Edge}
use Rattle.mtn_changes.specs.declared.change.Revision.{Revision as Spelled}
use Rattle.mtn_changes.proofs.OneValue.{same_revision}
use Rattle.mtn_check_pieces.specs.Verdict.{IsRevisionOf}
use Rattle.mtn_check_records.specs.Reading.{named_in}
use Rattle.mtn_history.proofs.Knowing.{told_each}
use Rattle.mtn_model.specs.Table.{Contents}
use Rattle.mtn_ports.proofs.KeptLemmas.{if_same}
use Rattle.mtn_ports.specs.Kept.{Same}
use Rattle.mtn_put_revision.proofs.Looking.{edge_here, edge_past, edges_end, edges_found, first_here, first_past, map_append, split_at, unknown_of_edges}
use Rattle.mtn_put_revision.specs.Finding.{unknown_in, first_unknown}
use Rattle.mtn_replay.specs.Making.{unknown_file}
use Rattle.mtn_check_hands.specs.Reading.{IsMentioned}

pub told_past : (old new : Option Contents) (cs : List Change) (i : ℕ) (ch : Change) (b : Bool) → Same old new → slice_get cs i ≡ Some ch → IfSome old (λ c. first_unknown (c 2) (take i cs) ≡ None) →
    IfSome new (λ c. IsTrue b → unknown_in (c 2) ch ≡ None) → IsTrue b → IfSome new (λ c. first_unknown (c 2) (take (i + 1) cs) ≡ None)
told_past old None cs i ch b same at before here right = tt
told_past old (Some c) cs i ch b same at before here right =
    first_past (c 2) cs i ch at (if_same old (Some c) (λ d. first_unknown (d 2) (take i cs) ≡ None) same before) (sym (here right))

pub told_end : (told : Option Contents) (cs : List Change) (i : ℕ) → length cs ≤ i → IfSome told (λ c. first_unknown (c 2) (take i cs) ≡ None) → IfSome told (λ c. IsTrue true → first_unknown (c 2) cs ≡ None)
told_end None cs i le h = tt
told_end (Some c) cs i le h = λ _. subst (λ l. first_unknown (c 2) l ≡ None) (take_all i cs le) h

-- the same of edges
pub told_edge_past : (old new : Option Contents) (es : List Edge) (i : ℕ) (e : Edge) (cs : List Change) (b : Bool) → Same old new → slice_get es i ≡ Some e → cs ≡ e.changes → IfSome old (λ c. unknown_of_edges (c 2) (take i es) ≡ None) →
    IfSome new (λ c. IsTrue b → first_unknown (c 2) cs ≡ None) → IsTrue b → IfSome new (λ c. unknown_of_edges (c 2) (take (i + 1) es) ≡ None)
told_edge_past old None es i e cs b same at is before here right = tt
told_edge_past old (Some c) es i e cs b same at is before here right =
    edge_past (c 2) es i e at (if_same old (Some c) (λ d. unknown_of_edges (d 2) (take i es) ≡ None) same before) (sym (subst (λ l. first_unknown (c 2) l ≡ None) is (here right)))

pub told_edges_end : (told : Option Contents) (es : List Edge) (i : ℕ) → length es ≤ i → IfSome told (λ c. unknown_of_edges (c 2) (take i es) ≡ None) → IfSome told (λ c. IsTrue true → unknown_file (c 2) es ≡ None)
told_edges_end None es i le h = tt
told_edges_end (Some c) es i le h = λ _. ap (option_map UnknownFile) (sym (edges_found (c 2) es None (sym (edges_end (c 2) es i le h))))

-- the first that is not held
some_at : {X : Type 0} (o : Option X) → IsSome o → (x : X) × (o ≡ Some x)
some_at None h = absurd cc
some_at (Some x) h = (x, refl)

pub told_here : (old new : Option Contents) (cs : List Change) (i : ℕ) (ch : Change) (b : Bool) → Same old new → slice_get cs i ≡ Some ch → IfSome old (λ c. first_unknown (c 2) (take i cs) ≡ None) →
    IfSome new (λ c. b ≡ false → IsSome (unknown_in (c 2) ch)) → b ≡ false → IfSome new (λ c. false ≡ false → IsSome (first_unknown (c 2) cs))
told_here old None cs i ch b same at before here wrong = tt
told_here old (Some c) cs i ch b same at before here wrong = λ _.
    let u = some_at (unknown_in (c 2) ch) (here wrong) in
    subst IsSome (first_here (c 2) cs i ch u.0 at (if_same old (Some c) (λ d. first_unknown (d 2) (take i cs) ≡ None) same before) (sym u.1)) refl

pub told_edge_here : (old new : Option Contents) (es : List Edge) (i : ℕ) (e : Edge) (cs : List Change) (b : Bool) → Same old new → slice_get es i ≡ Some e → cs ≡ e.changes → IfSome old (λ c. unknown_of_edges (c 2) (take i es) ≡ None) →
    IfSome new (λ c. b ≡ false → IsSome (first_unknown (c 2) cs)) → b ≡ false → IfSome new (λ c. false ≡ false → IsSome (unknown_file (c 2) es))
told_edge_here old None es i e cs b same at is before here wrong = tt
told_edge_here old (Some c) es i e cs b same at is before here wrong = λ _.
    let u = some_at (first_unknown (c 2) e.changes) (subst (λ l. IsSome (first_unknown (c 2) l)) is (here wrong)) in
    let found = edges_found (c 2) es (Some u.0) (edge_here (c 2) es i e u.0 at (if_same old (Some c) (λ d. unknown_of_edges (d 2) (take i es) ≡ None) same before) (sym u.1)) in
    subst IsSome (ap (option_map UnknownFile) found) refl

-- where all are held none is not
pub told_none_wrong : (told : Option Contents) (P : Contents → Type 0) → IfSome told (λ c. true ≡ false → P c)
told_none_wrong told P = told_each told _ (λ c e. absurd cc)

pub told_none_right : (told : Option Contents) (P : Contents → Type 0) → IfSome told (λ c. IsTrue false → P c)
told_none_right told P = told_each told _ (λ c e. absurd cc)

-- a text is that of one revision
pub told_mentioned : (told : Option Contents) (text : List ℕ) (v : Spelled) (es : List Edge) (ids : List Id) (held : Bool) → IsRevisionOf text v → es ≡ v.edges → ids ≡ named_in es →
    IfSome told (λ c. IsTrue held → unknown_file (c 2) es ≡ None) → IfSome told (λ c. held ≡ false → IsSome (unknown_file (c 2) es)) → IfSome told (λ c. IsMentioned c text (record { parents = ids; held = held }))
told_mentioned None text v es ids held is same named right wrong = tt
told_mentioned (Some c) text v es ids held is same named right wrong =
    let one : (w : Spelled) → IsRevisionOf text w → v ≡ w = λ w other. same_revision text v w is.ids other.ids is.spelled other.spelled in
    record {
      named = λ w other. ap (λ (x : Spelled). named_in x.edges) (sym (one w other)) ∙ ap named_in (sym same) ∙ sym named;
      files = λ w other h. subst (λ (x : Spelled). unknown_file (c 2) x.edges ≡ None) (one w other) (subst (λ l. unknown_file (c 2) l ≡ None) same (right h));
      unheld = λ w other h. subst (λ (x : Spelled). IsSome (unknown_file (c 2) x.edges)) (one w other) (subst (λ l. IsSome (unknown_file (c 2) l)) same (wrong h));
    }

-- one edge more
pub named_more : (es : List Edge) (i : ℕ) (e : Edge) (ids : List Id) → slice_get es i ≡ Some e → ids ≡ named_in (take i es) → ids ++ cons_option e.parent [] ≡ named_in (take (i + 1) es)
named_more es i e ids at is = ap (λ l. l ++ cons_option e.parent []) is ∙ sym (map_append (λ (x : Edge). x.parent) (take i es) (e ∷ [])) ∙ ap named_in (sym (split_at es i e at).2)
