-- A revision of one edge or two.
use Rattle.std.proofs.Common.{◌≡◌, ℕ, ◌+◌, ◌-◌, List, [], ◌∷◌, ◌++◌, length, take, drop, map, Option, Some, refl, sym, ap, subst, ◌∙◌, inl, arith}
use Rattle.std.specs.List.{flat_map}
use Rattle.std.proofs.lemmas.List.{append-nil, length-append, length-map, length-drop, take_all}
use Rattle.std.proofs.Common.{append_assoc}
use Rattle.std.proofs.Math.Seq.{drop-append-add}
use Rattle.mtn_base.specs.declared.id.Id.{Id}
use Rattle.mtn_basic_io.specs.Spelling.{LineText}
use Rattle.mtn_changes.specs.declared.change.Change.{Change}
use Rattle.mtn_changes.specs.declared.change.Edge.{Edge}
use Rattle.mtn_changes.specs.declared.head.Head.TheVariants.{Version, Manifest, Parent}
use Rattle.mtn_changes.specs.declared.order.Fault.{Fault}
use Rattle.mtn_changes.specs.declared.order.Fault.TheVariants as one
use Rattle.mtn_changes.specs.declared.error.ChangeTextError.{ChangeTextError}
use Rattle.mtn_changes.specs.declared.error.ChangeTextError.TheVariants.{NotText, BadStanza, BadOrder, Repeated, BadEdge, NoMemory}
use Rattle.mtn_changes.specs.Stanzas.{stanza_of}
use Rattle.mtn_changes.specs.Heads.{head_stanza}
use Rattle.mtn_changes.specs.ChangesText.{AreChanges}
use Rattle.mtn_changes.specs.RevisionText.{edge_stanzas, Ascend, IsOnlyEdgeFault, IsWrongAt, IsStanzasFault, IsRevision}
use Rattle.mtn_changes.specs.Runs.{IsOpening, IsRun, IsRunFaultAt, IsRunFault, IsSecond, IsSecondFaultAt, IsSecondFault}

-- a list without its first items
pub tail : (n : ℕ) (ss : List (List LineText)) → take (length ss - n) (drop n ss) ≡ drop n ss
tail n ss = take_all (length ss - n) (drop n ss) (omega (arith, length-drop n ss))

abbrev pub edge : Option Id → List Change → Edge
edge p cs = record { parent = p; changes = cs }

-- the heads, one edge and what follows
whole1 : (ss : List (List LineText)) (m : Id) (p : Option Id) (cs : List Change) (more : List (List LineText)) → IsOpening ss m p → drop 3 ss ≡ map stanza_of cs ++ more
    → ss ≡ head_stanza Version ∷ head_stanza (Manifest m) ∷ (flat_map edge_stanzas (edge p cs ∷ []) ++ more)
whole1 ss m p cs more op e =
    op.whole
    ∙ ap (λ (us : List (List LineText)). head_stanza Version ∷ head_stanza (Manifest m) ∷ head_stanza (Parent p) ∷ us) e
    ∙ ap (λ (us : List (List LineText)). head_stanza Version ∷ head_stanza (Manifest m) ∷ head_stanza (Parent p) ∷ (us ++ more)) (sym (append-nil (map stanza_of cs)))

count1 : (p : Option Id) (cs : List Change) → length (flat_map edge_stanzas (edge p cs ∷ [])) ≡ 1 + length cs
count1 p cs = omega (arith, length-append (map stanza_of cs) [], length-map cs stanza_of)

-- two edges and what follows
pub join2 : (p q : Option Id) (cs bs : List Change) (more : List (List LineText))
    → head_stanza (Parent p) ∷ (map stanza_of cs ++ head_stanza (Parent q) ∷ (map stanza_of bs ++ more)) ≡ flat_map edge_stanzas (edge p cs ∷ edge q bs ∷ []) ++ more
join2 p q cs bs more =
    let lone : head_stanza (Parent q) ∷ (map stanza_of bs ++ more) ≡ (head_stanza (Parent q) ∷ (map stanza_of bs ++ [])) ++ more =
    ap (λ (us : List (List LineText)). head_stanza (Parent q) ∷ (us ++ more)) (sym (append-nil (map stanza_of bs))) in
    ap (λ (us : List (List LineText)). head_stanza (Parent p) ∷ (map stanza_of cs ++ us)) lone
    ∙ ap (λ (us : List (List LineText)). head_stanza (Parent p) ∷ us) (sym (append_assoc (map stanza_of cs) (head_stanza (Parent q) ∷ (map stanza_of bs ++ [])) more))

whole2 : (ss : List (List LineText)) (m : Id) (p q : Option Id) (cs bs : List Change) (more : List (List LineText)) → IsOpening ss m p
    → drop 3 ss ≡ map stanza_of cs ++ head_stanza (Parent q) ∷ (map stanza_of bs ++ more) → ss ≡ head_stanza Version ∷ head_stanza (Manifest m) ∷ (flat_map edge_stanzas (edge p cs ∷ edge q bs ∷ []) ++ more)
whole2 ss m p q cs bs more op e =
    op.whole
    ∙ ap (λ (us : List (List LineText)). head_stanza Version ∷ head_stanza (Manifest m) ∷ head_stanza (Parent p) ∷ us) e
    ∙ ap (λ (us : List (List LineText)). head_stanza Version ∷ head_stanza (Manifest m) ∷ us) (join2 p q cs bs more)

count2 : (p q : Option Id) (cs bs : List Change) → length (flat_map edge_stanzas (edge p cs ∷ edge q bs ∷ [])) ≡ 2 + length cs + length bs
count2 p q cs bs =
    omega (arith, length-append (map stanza_of cs) (head_stanza (Parent q) ∷ (map stanza_of bs ++ [])), length-append (map stanza_of bs) [], length-map cs stanza_of, length-map bs stanza_of)

-- a stanza that may not stand in the first edge
first_at : (ss : List (List LineText)) (m : Id) (p : Option Id) (number : ℕ) (why : Fault) → IsOpening ss m p → (f : IsRunFaultAt (drop 3 ss) 3 number why) → IsOnlyEdgeFault (edge p f.before) f.stanza why
    → IsWrongAt ss number why
first_at ss m p number why op f fault = record {
  heads = Version ∷ Manifest m ∷ [];
  edges = edge p f.before ∷ [];
  stanza = f.stanza;
  rest = f.rest;
  lawful = f.lawful;
  whole = whole1 ss m p f.before (f.stanza ∷ f.rest) op f.whole;
  place = omega (arith, f.place, count1 p f.before);
  fault = fault;
}

first_wrong : (ss : List (List LineText)) (m : Id) (p : Option Id) (e : ChangeTextError) → IsOpening ss m p → IsRunFault (drop 3 ss) 3 e → IsStanzasFault ss e
first_wrong ss m p (NotText offset) op f = f
first_wrong ss m p (BadStanza number) op f = first_at ss m p number one.BadStanza op f (f.fault, f.inside)
first_wrong ss m p (BadOrder number) op f = inl (first_at ss m p number one.BadOrder op f (f.fault, f.inside))
first_wrong ss m p (Repeated number) op f = first_at ss m p number one.Repeated op f (f.fault, f.inside)
first_wrong ss m p (BadEdge number) op f = absurd f
first_wrong ss m p NoMemory op f = tt

pub first_fault : (ss : List (List LineText)) (m : Id) (p : Option Id) (e : ChangeTextError) → IsOpening ss m p → IsRunFault (take (length ss - 3) (drop 3 ss)) 3 e → IsStanzasFault ss e
first_fault ss m p e op f = first_wrong ss m p e op (subst (λ (us : List (List LineText)). IsRunFault us 3 e) (tail 3 ss) f)

-- what stands behind the second parent
behind : (ss : List (List LineText)) (m : Id) (p q : Option Id) (cs : List Change) (rest : List (List LineText)) (at : ℕ) → IsOpening ss m p → drop 3 ss ≡ map stanza_of cs ++ head_stanza (Parent q) ∷ rest
    → at ≡ 3 + length cs → drop (at + 1) ss ≡ rest
behind ss m p q cs rest at op e is =
    let front : List (List LineText) = head_stanza Version ∷ head_stanza (Manifest m) ∷ head_stanza (Parent p) ∷ map stanza_of cs in
    let whole : ss ≡ front ++ head_stanza (Parent q) ∷ rest = op.whole ∙ ap (λ (us : List (List LineText)). head_stanza Version ∷ head_stanza (Manifest m) ∷ head_stanza (Parent p) ∷ us) e in
    let count : at + 1 ≡ length front + 1 = omega (arith, is, length-map cs stanza_of) in
    ap (λ (n : ℕ). drop n ss) count ∙ ap (drop (length front + 1)) whole ∙ drop-append-add front (head_stanza (Parent q) ∷ rest) 1

after : (ss : List (List LineText)) (m : Id) (p q : Option Id) (cs : List Change) (at : ℕ) → IsOpening ss m p → IsRun (drop 3 ss) cs (Some q) → at ≡ 3 + length cs
    → drop 3 ss ≡ map stanza_of cs ++ head_stanza (Parent q) ∷ drop (at + 1) ss
after ss m p q cs at op run is =
    run.ends.1 ∙ ap (λ (us : List (List LineText)). map stanza_of cs ++ head_stanza (Parent q) ∷ us) (sym (behind ss m p q cs run.ends.0 at op run.ends.1 is))

-- a stanza that may not stand in the second edge
second_at : (ss : List (List LineText)) (m : Id) (p q : Option Id) (cs : List Change) (at number : ℕ) (why : Fault) → IsOpening ss m p → IsRun (drop 3 ss) cs (Some q) → at ≡ 3 + length cs
    → IsSecondFaultAt (drop (at + 1) ss) (at + 1) p q number why → IsWrongAt ss number why
second_at ss m p q cs at number why op run is f = record {
  heads = Version ∷ Manifest m ∷ [];
  edges = edge p cs ∷ edge q f.before ∷ [];
  stanza = f.stanza;
  rest = f.rest;
  lawful = (run.lawful, f.lawful, f.ascends);
  whole =
      whole2 ss m p q cs f.before (f.stanza ∷ f.rest) op (after ss m p q cs at op run is ∙ ap (λ (us : List (List LineText)). map stanza_of cs ++ head_stanza (Parent q) ∷ us) f.whole);
  place = omega (arith, f.place, is, count2 p q cs f.before);
  fault = f.fault;
}

second_wrong_parent : (ss : List (List LineText)) (m : Id) (p q : Option Id) (cs : List Change) (at number : ℕ) → IsOpening ss m p → IsRun (drop 3 ss) cs (Some q) → at ≡ 3 + length cs → number ≡ at + 1 → (Ascend p q → ⊥)
    → IsWrongAt ss number one.BadEdge
second_wrong_parent ss m p q cs at number op run is place falls = record {
  heads = Version ∷ Manifest m ∷ [];
  edges = edge p cs ∷ [];
  stanza = head_stanza (Parent q);
  rest = run.ends.0;
  lawful = run.lawful;
  whole = whole1 ss m p cs (head_stanza (Parent q) ∷ run.ends.0) op run.ends.1;
  place = omega (arith, place, is, count1 p cs);
  fault = (q, refl, falls);
}

second_wrong : (ss : List (List LineText)) (m : Id) (p q : Option Id) (cs : List Change) (at : ℕ) (e : ChangeTextError) → IsOpening ss m p → IsRun (drop 3 ss) cs (Some q) → at ≡ 3 + length cs
    → IsSecondFault (drop (at + 1) ss) (at + 1) p q e → IsStanzasFault ss e
second_wrong ss m p q cs at (NotText offset) op run is f = f
second_wrong ss m p q cs at (BadStanza number) op run is f = second_at ss m p q cs at number one.BadStanza op run is f
second_wrong ss m p q cs at (BadOrder number) op run is f = inl (second_at ss m p q cs at number one.BadOrder op run is f)
second_wrong ss m p q cs at (Repeated number) op run is f = second_at ss m p q cs at number one.Repeated op run is f
second_wrong ss m p q cs at (BadEdge number) op run is f = second_wrong_parent ss m p q cs at number op run is f.0 f.1
second_wrong ss m p q cs at NoMemory op run is f = tt

-- a run, at all that stands behind the heads
run_at : (ss : List (List LineText)) (cs : List Change) (next : Option (Option Id)) (q : Option Id) → next ≡ Some q → IsRun (take (length ss - 3) (drop 3 ss)) cs next → IsRun (drop 3 ss) cs (Some q)
run_at ss cs next q is run = subst (IsRun (drop 3 ss) cs) is (subst (λ (us : List (List LineText)). IsRun us cs next) (tail 3 ss) run)

pub second_fault : (ss : List (List LineText)) (m : Id) (p q : Option Id) (cs : List Change) (next : Option (Option Id)) (at : ℕ) (e : ChangeTextError) → IsOpening ss m p → next ≡ Some q
    → IsRun (take (length ss - 3) (drop 3 ss)) cs next → at ≡ 3 + length cs → IsSecondFault (take (length ss - (at + 1)) (drop (at + 1) ss)) (at + 1) p q e → IsStanzasFault ss e
second_fault ss m p q cs next at e op some run is f =
    second_wrong ss m p q cs at e op (run_at ss cs next q some run) is (subst (λ (us : List (List LineText)). IsSecondFault us (at + 1) p q e) (tail (at + 1) ss) f)

-- two edges are a revision
two_edges : (ss : List (List LineText)) (m : Id) (p q : Option Id) (cs bs : List Change) (at : ℕ) → IsOpening ss m p → IsRun (drop 3 ss) cs (Some q) → at ≡ 3 + length cs → Ascend p q → AreChanges bs
    → drop (at + 1) ss ≡ map stanza_of bs → IsRevision ss (record { manifest = m; edges = edge p cs ∷ edge q bs ∷ [] })
two_edges ss m p q cs bs at op run is ascends lawful whole = record {
  lawful = (run.lawful, lawful, ascends);
  spelled =
      whole2 ss m p q cs bs [] op (after ss m p q cs at op run is ∙ ap (λ (us : List (List LineText)). map stanza_of cs ++ head_stanza (Parent q) ∷ us) (whole ∙ sym (append-nil (map stanza_of bs))))
      ∙ ap (λ (us : List (List LineText)). head_stanza Version ∷ head_stanza (Manifest m) ∷ us) (append-nil (flat_map edge_stanzas (edge p cs ∷ edge q bs ∷ [])));
}

second_ok : (ss : List (List LineText)) (m : Id) (p q : Option Id) (cs : List Change) (at : ℕ) (e : Edge) → IsOpening ss m p → IsRun (drop 3 ss) cs (Some q) → at ≡ 3 + length cs → IsSecond (drop (at + 1) ss) p q e
    → IsRevision ss (record { manifest = m; edges = edge p cs ∷ e ∷ [] })
second_ok ss m p q cs at e op run is second =
    subst (λ (r : Option Id). IsRevision ss (record { manifest = m; edges = edge p cs ∷ edge r e.changes ∷ [] })) (sym second.named) (two_edges ss m p q cs e.changes at op run is second.ascends second.lawful second.whole)

pub two_ok : (ss : List (List LineText)) (m : Id) (p q : Option Id) (cs : List Change) (next : Option (Option Id)) (at : ℕ) (e : Edge) (edges : List Edge) → IsOpening ss m p → next ≡ Some q
    → IsRun (take (length ss - 3) (drop 3 ss)) cs next → at ≡ 3 + length cs → IsSecond (take (length ss - (at + 1)) (drop (at + 1) ss)) p q e → edges ≡ edge p cs ∷ e ∷ []
    → IsRevision ss (record { manifest = m; edges = edges })
two_ok ss m p q cs next at e edges op some run is second same =
    subst (λ (es : List Edge). IsRevision ss (record { manifest = m; edges = es })) (sym same) (second_ok ss m p q cs at e op (run_at ss cs next q some run) is (subst (λ (us : List (List LineText)). IsSecond us p q e) (tail (at + 1) ss) second))

-- a third edge
pub third : (ss : List (List LineText)) (from : ℕ) (p q : Option Id) (cs : List Change) (next : Option (Option Id)) (r : Option Id) (n : ℕ) → next ≡ Some r → IsRun ss cs next → Ascend p q → n ≡ length cs
    → IsSecondFaultAt ss from p q (from + n + 1) one.BadOrder
third ss from p q cs next r n some run ascends count =
    let at : IsRun ss cs (Some r) = subst (IsRun ss cs) some run in
    record {
      before = cs;
      stanza = head_stanza (Parent r);
      rest = at.ends.0;
      lawful = at.lawful;
      ascends = ascends;
      whole = at.ends.1;
      place = omega (arith, count);
      fault = inl (Parent r, refl);
    }
