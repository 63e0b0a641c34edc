-- A text spells one value, and one that spells a value has no fault.
use Rattle.std.proofs.Common.{◌≡◌, ℕ, List, [], ◌∷◌, ◌++◌, map, Option, refl, sym, ap, subst, ◌∙◌, inl, inr}
use Rattle.std.specs.List.{flat_map}
use Rattle.std.proofs.lemmas.List.{append-nil}
use Rattle.mtn_base.specs.declared.id.Id.{Id}
use Rattle.mtn_basic_io.specs.Spelling.{LineText, AreStanzas, spelling}
use Rattle.mtn_basic_io.proofs.Again.{one_form}
use Rattle.mtn_changes.specs.declared.change.Change.{Change}
use Rattle.mtn_changes.specs.declared.change.Edge.{Edge}
use Rattle.mtn_changes.specs.declared.change.Revision.{Revision}
use Rattle.mtn_changes.specs.declared.head.Head.{Head}
use Rattle.mtn_changes.specs.declared.head.Head.TheVariants.{Version, Manifest, Parent}
use Rattle.mtn_changes.specs.declared.order.Fault.{Fault}
use Rattle.mtn_changes.specs.declared.order.Fault.TheVariants as one
use Rattle.mtn_changes.specs.declared.error.ChangeTextError.{ChangeTextError}
use Rattle.mtn_changes.specs.declared.error.ChangeTextError.TheVariants.{NotText, BadStanza, BadOrder, Repeated, BadEdge, NoMemory}
use Rattle.mtn_changes.specs.Stanzas.{stanza_of}
use Rattle.mtn_changes.specs.Heads.{head_stanza, head_rank}
use Rattle.mtn_changes.specs.Lists.{StandsBehind, IsFault}
use Rattle.mtn_changes.specs.ChangesText.{AreChanges, IsFaultAt, IsListFault, IsChangesText, IsChangesFault}
use Rattle.mtn_changes.specs.RevisionText.{edge_stanzas, revision_stanzas, Ascend, AreEdges, IsFront, IsHeadFault, IsOnlyEdgeFault, IsNextFault, IsWrongAt, IsStanzasFault, IsRevisionText, IsRevisionFault}
use Rattle.mtn_changes.proofs.Decoded.{one_head, one_manifest, one_parent, no_both}
use Rattle.mtn_changes.proofs.Edges.{join2}
use Rattle.mtn_changes.proofs.Splits.{others, same_first, same_others, none_more, no_change_at, Cut, cut, one_run, one_list, each, stands_at, no_fault, no_fault_inside}

-- ---- lists of changes

pub same_changes : (text : List ℕ) (a b : List Change) → AreStanzas (map stanza_of a) → AreStanzas (map stanza_of b) → IsChangesText text a → IsChangesText text b → a ≡ b
same_changes text a b ok_a ok_b is_a is_b =
    one_list a b (each a is_a.lawful) (each b is_b.lawful) (one_form (map stanza_of a) (map stanza_of b) ok_a ok_b (sym is_a.spelled ∙ is_b.spelled))

no_fault_at : (cs : List Change) (number : ℕ) (why : Fault) → AreChanges cs → IsFaultAt (map stanza_of cs) number why → why ≡ one.NoMemory
no_fault_at cs number why lawful f =
    at (cut f.before cs f.stanza f.rest [] (each f.before f.lawful) (each cs lawful) tt (sym f.whole ∙ sym (append-nil (map stanza_of cs)))) where
      at : Cut f.before f.stanza f.rest cs [] → why ≡ one.NoMemory
      at (inl inside) = no_fault_inside f.before cs f.stanza why lawful inside f.fault
      at (inr behind) = absurd (none_more f.stanza f.rest behind.left)

no_list_fault : (cs : List Change) (e : ChangeTextError) → AreChanges cs → IsListFault (map stanza_of cs) e → e ≡ NoMemory
no_list_fault cs (NotText offset) lawful f = absurd f
no_list_fault cs (BadStanza number) lawful f = let e = no_fault_at cs number one.BadStanza lawful f in absurd (cc e)
no_list_fault cs (BadOrder number) lawful f = let e = no_fault_at cs number one.BadOrder lawful f in absurd (cc e)
no_list_fault cs (Repeated number) lawful f = let e = no_fault_at cs number one.Repeated lawful f in absurd (cc e)
no_list_fault cs (BadEdge number) lawful f = absurd f
no_list_fault cs NoMemory lawful f = refl

-- the fault of stanzas that have the text
abbrev StanzasOf : List ℕ → (List (List LineText) → Type 0) → Type 0
StanzasOf text P = (stanzas : List (List LineText)) × AreStanzas stanzas × (text ≡ spelling stanzas) × P stanzas

of_those : (text : List ℕ) (ss : List (List LineText)) (P : List (List LineText) → Type 0) → AreStanzas ss → text ≡ spelling ss → StanzasOf text P → P ss
of_those text ss P ok same f = subst P (one_form f.0 ss f.1 ok (sym f.2 ∙ same)) f.3

pub no_changes_fault : (text : List ℕ) (cs : List Change) (e : ChangeTextError) → AreStanzas (map stanza_of cs) → IsChangesText text cs → IsChangesFault text e → e ≡ NoMemory
no_changes_fault text cs (NotText offset) ok is f = absurd (f.none (map stanza_of cs) ok is.spelled)
no_changes_fault text cs (BadStanza number) ok is f = no_list_fault cs (BadStanza number) is.lawful (of_those text (map stanza_of cs) (λ ss. IsListFault ss (BadStanza number)) ok is.spelled f)
no_changes_fault text cs (BadOrder number) ok is f = no_list_fault cs (BadOrder number) is.lawful (of_those text (map stanza_of cs) (λ ss. IsListFault ss (BadOrder number)) ok is.spelled f)
no_changes_fault text cs (Repeated number) ok is f = no_list_fault cs (Repeated number) is.lawful (of_those text (map stanza_of cs) (λ ss. IsListFault ss (Repeated number)) ok is.spelled f)
no_changes_fault text cs (BadEdge number) ok is f = no_list_fault cs (BadEdge number) is.lawful (of_those text (map stanza_of cs) (λ ss. IsListFault ss (BadEdge number)) ok is.spelled f)
no_changes_fault text cs NoMemory ok is f = refl

-- ---- edges

-- a list of edges with what follows it
loose1 : (e : Edge) (more : List (List LineText)) → flat_map edge_stanzas (e ∷ []) ++ more ≡ head_stanza (Parent e.parent) ∷ (map stanza_of e.changes ++ more)
loose1 e more = ap (λ (us : List (List LineText)). head_stanza (Parent e.parent) ∷ (us ++ more)) (append-nil (map stanza_of e.changes))

loose2 : (e f : Edge) (more : List (List LineText))
    → flat_map edge_stanzas (e ∷ f ∷ []) ++ more ≡ head_stanza (Parent e.parent) ∷ (map stanza_of e.changes ++ head_stanza (Parent f.parent) ∷ (map stanza_of f.changes ++ more))
loose2 e f more = sym (join2 e.parent f.parent e.changes f.changes more)

same_edge : (e f : Edge) → e.parent ≡ f.parent → e.changes ≡ f.changes → e ≡ f
same_edge e f p c =
    ap (λ (q : Option Id). let g : Edge = record { parent = q; changes = e.changes } in g) p ∙ ap (λ (cs : List Change). let g : Edge = record { parent = f.parent; changes = cs } in g) c

-- the stanzas of an edge and of what follows, twice
module _ (e f : Edge) (y z : List (List LineText)) (same : head_stanza (Parent e.parent) ∷ (map stanza_of e.changes ++ y) ≡ head_stanza (Parent f.parent) ∷ (map stanza_of f.changes ++ z)) where
  parents : e.parent ≡ f.parent
  parents = one_parent e.parent f.parent (same_first (head_stanza (Parent e.parent)) (head_stanza (Parent f.parent)) (map stanza_of e.changes ++ y) (map stanza_of f.changes ++ z) same)

  runs : map stanza_of e.changes ++ y ≡ map stanza_of f.changes ++ z
  runs = same_others (head_stanza (Parent e.parent)) (head_stanza (Parent f.parent)) (map stanza_of e.changes ++ y) (map stanza_of f.changes ++ z) same

-- the last edge of a revision
abbrev last_edge : Edge → List (List LineText)
last_edge e = head_stanza (Parent e.parent) ∷ (map stanza_of e.changes ++ [])

same_edges : (es fs : List Edge) → AreEdges es → AreEdges fs → flat_map edge_stanzas es ≡ flat_map edge_stanzas fs → es ≡ fs
same_edges [] fs is_e is_f same = absurd is_e
same_edges (e ∷ es) [] is_e is_f same = absurd is_f
same_edges (e ∷ []) (f ∷ []) is_e is_f same =
    let run = one_run e.changes f.changes [] [] (each e.changes is_e) (each f.changes is_f) tt tt (runs e f [] [] same) in
    ap (λ (g : Edge). g ∷ []) (same_edge e f (parents e f [] [] same) run.changes)
same_edges (e ∷ []) (f ∷ f2 ∷ []) is_e is_f same =
    let z = last_edge f2 in
    let run = one_run e.changes f.changes [] z (each e.changes is_e) (each f.changes is_f.0) tt (no_change_at (Parent f2.parent) (map stanza_of f2.changes ++ [])) (runs e f [] z same) in
    absurd (none_more (head_stanza (Parent f2.parent)) (map stanza_of f2.changes ++ []) (sym run.left))
same_edges (e ∷ e2 ∷ []) (f ∷ []) is_e is_f same =
    let y = last_edge e2 in
    let run = one_run e.changes f.changes y [] (each e.changes is_e.0) (each f.changes is_f) (no_change_at (Parent e2.parent) (map stanza_of e2.changes ++ [])) tt (runs e f y [] same) in
    absurd (none_more (head_stanza (Parent e2.parent)) (map stanza_of e2.changes ++ []) run.left)
same_edges (e ∷ e2 ∷ []) (f ∷ f2 ∷ []) is_e is_f same =
    let y = last_edge e2 in
    let z = last_edge f2 in
    let run =
    one_run e.changes f.changes y z (each e.changes is_e.0) (each f.changes is_f.0) (no_change_at (Parent e2.parent) (map stanza_of e2.changes ++ [])) (no_change_at (Parent f2.parent) (map stanza_of f2.changes ++ [])) (runs e f y z same) in
    let run2 = one_run e2.changes f2.changes [] [] (each e2.changes is_e.1) (each f2.changes is_f.1) tt tt (runs e2 f2 [] [] run.left) in
    ap (λ (g : Edge). g ∷ e2 ∷ []) (same_edge e f (parents e f y z same) run.changes)
    ∙ ap (λ (g : Edge). f ∷ g ∷ []) (same_edge e2 f2 (parents e2 f2 [] [] run.left) run2.changes)
same_edges (e ∷ []) (f ∷ f2 ∷ f3 ∷ fs) is_e is_f same = absurd is_f
same_edges (e ∷ e2 ∷ []) (f ∷ f2 ∷ f3 ∷ fs) is_e is_f same = absurd is_f
same_edges (e ∷ e2 ∷ e3 ∷ es) (f ∷ fs) is_e is_f same = absurd is_e

-- ---- revisions

abbrev behind_heads : List (List LineText) → List (List LineText)
behind_heads ss = others (others ss)

revision_is : (a b : Revision) → a.manifest ≡ b.manifest → a.edges ≡ b.edges → a ≡ b
revision_is a b m e =
    ap (λ (id : Id). let r : Revision = record { manifest = id; edges = a.edges } in r) m ∙ ap (λ (es : List Edge). let r : Revision = record { manifest = b.manifest; edges = es } in r) e

one_revision : (a b : Revision) → AreEdges a.edges → AreEdges b.edges → revision_stanzas a ≡ revision_stanzas b → a ≡ b
one_revision a b is_a is_b same =
    let manifests : head_stanza (Manifest a.manifest) ≡ head_stanza (Manifest b.manifest) =
    same_first (head_stanza (Manifest a.manifest)) (head_stanza (Manifest b.manifest)) (flat_map edge_stanzas a.edges) (flat_map edge_stanzas b.edges) (ap others same) in
    revision_is a b (one_manifest a.manifest b.manifest manifests) (same_edges a.edges b.edges is_a is_b (ap behind_heads same))

pub same_revision : (text : List ℕ) (a b : Revision) → AreStanzas (revision_stanzas a) → AreStanzas (revision_stanzas b) → IsRevisionText text a → IsRevisionText text b → a ≡ b
same_revision text a b ok_a ok_b is_a is_b = one_revision a b is_a.lawful is_b.lawful (one_form (revision_stanzas a) (revision_stanzas b) ok_a ok_b (sym is_a.spelled ∙ is_b.spelled))

-- the head that has to stand there
right_head : (h : Head) (r : ℕ) (s : List LineText) (why : Fault) → head_rank h ≡ r → s ≡ head_stanza h → IsHeadFault r s why → why ≡ one.NoMemory
right_head h r s one.BadStanza rank is f = absurd (f.1 h is)
right_head h r s one.BadOrder rank is (inl k) = absurd (k.2 (ap head_rank (one_head k.0 h (sym k.1 ∙ is)) ∙ rank))
right_head h r s one.BadOrder rank is (inr c) = absurd (no_both h c.0 c.1 (sym is ∙ c.2))
right_head h r s one.Repeated rank is f = absurd f
right_head h r s one.BadEdge rank is f = absurd f
right_head h r s one.NoMemory rank is f = refl

-- a change of the first edge
only_inside : (e : Edge) (c : Change) (s : List LineText) (why : Fault) → StandsBehind e.changes c → s ≡ stanza_of c → IsOnlyEdgeFault e s why → why ≡ one.NoMemory
only_inside e c s one.BadStanza stands is f = no_fault e.changes c s one.BadStanza stands is f.0
only_inside e c s one.BadOrder stands is f = no_fault e.changes c s one.BadOrder stands is f.0
only_inside e c s one.Repeated stands is f = no_fault e.changes c s one.Repeated stands is f.0
only_inside e c s one.BadEdge stands is f = absurd (no_both (Parent f.0) c stands.lawful (sym f.1 ∙ is))
only_inside e c s one.NoMemory stands is f = refl

-- the parent of the second edge
only_behind : (e : Edge) (q : Option Id) (s : List LineText) (why : Fault) → Ascend e.parent q → s ≡ head_stanza (Parent q) → IsOnlyEdgeFault e s why → why ≡ one.NoMemory
only_behind e q s one.BadStanza up is f = absurd (f.1 q is)
only_behind e q s one.BadOrder up is f = absurd (f.1 q is)
only_behind e q s one.Repeated up is f = absurd (f.1 q is)
only_behind e q s one.BadEdge up is f = absurd (f.2 (subst (λ (p : Option Id). Ascend e.parent p) (one_parent q f.0 (sym is ∙ f.1)) up))
only_behind e q s one.NoMemory up is f = refl

-- behind one edge of a revision of one
one_of_one : (e g : Edge) (s : List LineText) (rest : List (List LineText)) (why : Fault) → AreChanges e.changes → AreChanges g.changes → flat_map edge_stanzas (e ∷ []) ++ s ∷ rest ≡ flat_map edge_stanzas (g ∷ [])
    → IsOnlyEdgeFault e s why → why ≡ one.NoMemory
one_of_one e g s rest why is_e is_g same f =
    at (cut e.changes g.changes s rest [] (each e.changes is_e) (each g.changes is_g) tt (runs e g (s ∷ rest) [] (sym (loose1 e (s ∷ rest)) ∙ same))) where
      at : Cut e.changes s rest g.changes [] → why ≡ one.NoMemory
      at (inl i) = only_inside e i.change s why (stands_at e.changes i.change i.more g.changes is_g i.parts) i.spelled f
      at (inr behind) = absurd (none_more s rest behind.left)

-- behind one edge of a revision of two
one_of_two : (e g k : Edge) (s : List LineText) (rest : List (List LineText)) (why : Fault) → AreChanges e.changes → AreChanges g.changes → Ascend g.parent k.parent
    → flat_map edge_stanzas (e ∷ []) ++ s ∷ rest ≡ flat_map edge_stanzas (g ∷ k ∷ []) → IsOnlyEdgeFault e s why → why ≡ one.NoMemory
one_of_two e g k s rest why is_e is_g up same f =
    at (cut e.changes g.changes s rest (last_edge k) (each e.changes is_e) (each g.changes is_g) (no_change_at (Parent k.parent) (map stanza_of k.changes ++ [])) (runs e g (s ∷ rest) (last_edge k) whole)) where
      whole : head_stanza (Parent e.parent) ∷ (map stanza_of e.changes ++ s ∷ rest) ≡ head_stanza (Parent g.parent) ∷ (map stanza_of g.changes ++ last_edge k)
      whole = sym (loose1 e (s ∷ rest)) ∙ same

      at : Cut e.changes s rest g.changes (last_edge k) → why ≡ one.NoMemory
      at (inl i) = only_inside e i.change s why (stands_at e.changes i.change i.more g.changes is_g i.parts) i.spelled f
      at (inr behind) =
          only_behind e k.parent s why (subst (λ (p : Option Id). Ascend p k.parent) (sym (parents e g (s ∷ rest) (last_edge k) whole)) up) (same_first s (head_stanza (Parent k.parent)) rest (map stanza_of k.changes ++ []) behind.left) f

-- behind two edges
two_of_one : (e f g : Edge) (more : List (List LineText)) → AreChanges e.changes → AreChanges g.changes → flat_map edge_stanzas (e ∷ f ∷ []) ++ more ≡ flat_map edge_stanzas (g ∷ []) → ⊥
two_of_one e f g more is_e is_g same =
    let left = map stanza_of f.changes ++ more in
    let run =
    one_run e.changes g.changes (head_stanza (Parent f.parent) ∷ left) [] (each e.changes is_e) (each g.changes is_g) (no_change_at (Parent f.parent) left) tt (runs e g (head_stanza (Parent f.parent) ∷ left) [] (sym (loose2 e f more) ∙ same)) in
    none_more (head_stanza (Parent f.parent)) left run.left

two_of_two : (e f g k : Edge) (s : List LineText) (rest : List (List LineText)) (why : Fault) → AreEdges (e ∷ f ∷ []) → AreEdges (g ∷ k ∷ []) → flat_map edge_stanzas (e ∷ f ∷ []) ++ s ∷ rest ≡ flat_map edge_stanzas (g ∷ k ∷ [])
    → IsFault f.changes s why → why ≡ one.NoMemory
two_of_two e f g k s rest why is_e is_g same fault =
    let left = map stanza_of f.changes ++ s ∷ rest in
    let run =
    one_run e.changes g.changes (head_stanza (Parent f.parent) ∷ left) (last_edge k) (each e.changes is_e.0) (each g.changes is_g.0) (no_change_at (Parent f.parent) left) (no_change_at (Parent k.parent) (map stanza_of k.changes ++ [])) (runs e g (head_stanza (Parent f.parent) ∷ left) (last_edge k) (sym (loose2 e f (s ∷ rest)) ∙ same)) in
    at (cut f.changes k.changes s rest [] (each f.changes is_e.1) (each k.changes is_g.1) tt (runs f k (s ∷ rest) [] run.left)) where
      at : Cut f.changes s rest k.changes [] → why ≡ one.NoMemory
      at (inl inside) = no_fault_inside f.changes k.changes s why is_g.1 inside fault
      at (inr behind) = absurd (none_more s rest behind.left)

wrong_edges : (es gs : List Edge) (s : List LineText) (rest : List (List LineText)) (why : Fault) → AreEdges es → AreEdges gs → flat_map edge_stanzas es ++ s ∷ rest ≡ flat_map edge_stanzas gs
    → IsNextFault (Version ∷ Version ∷ []) es s why → why ≡ one.NoMemory
wrong_edges [] gs s rest why is_e is_g same f = absurd is_e
wrong_edges (e ∷ es) [] s rest why is_e is_g same f = absurd is_g
wrong_edges (e ∷ []) (g ∷ []) s rest why is_e is_g same f = one_of_one e g s rest why is_e is_g same f
wrong_edges (e ∷ []) (g ∷ k ∷ []) s rest why is_e is_g same f = one_of_two e g k s rest why is_e is_g.0 is_g.2 same f
wrong_edges (e ∷ f ∷ []) (g ∷ []) s rest why is_e is_g same fault = absurd (two_of_one e f g (s ∷ rest) is_e.0 is_g same)
wrong_edges (e ∷ f ∷ []) (g ∷ k ∷ []) s rest why is_e is_g same fault = two_of_two e f g k s rest why is_e is_g same fault
wrong_edges (e ∷ []) (g ∷ k ∷ l ∷ gs) s rest why is_e is_g same f = absurd is_g
wrong_edges (e ∷ f ∷ []) (g ∷ k ∷ l ∷ gs) s rest why is_e is_g same fault = absurd is_g
wrong_edges (e ∷ f ∷ h ∷ es) (g ∷ gs) s rest why is_e is_g same fault = absurd is_e

-- a stanza where the first edge has to begin
third_stanza : (gs : List Edge) (s : List LineText) (rest : List (List LineText)) (why : Fault) → AreEdges gs → s ∷ rest ≡ flat_map edge_stanzas gs → IsHeadFault 3 s why → why ≡ one.NoMemory
third_stanza [] s rest why is_g same f = absurd is_g
third_stanza (g ∷ gs) s rest why is_g same f =
    right_head (Parent g.parent) 3 s why refl (same_first s (head_stanza (Parent g.parent)) rest (map stanza_of g.changes ++ flat_map edge_stanzas gs) same) f

wrong_at : (r : Revision) (heads : List Head) (es : List Edge) (s : List LineText) (rest : List (List LineText)) (why : Fault) → AreEdges r.edges → IsFront heads es
    → revision_stanzas r ≡ map head_stanza heads ++ flat_map edge_stanzas es ++ s ∷ rest → IsNextFault heads es s why → why ≡ one.NoMemory
wrong_at r [] [] s rest why is front same f =
    right_head Version 1 s why refl (sym (same_first (head_stanza Version) s (head_stanza (Manifest r.manifest) ∷ flat_map edge_stanzas r.edges) rest same)) f
wrong_at r [] (e ∷ es) s rest why is front same f = absurd front
wrong_at r (Version ∷ []) [] s rest why is front same f =
    right_head (Manifest r.manifest) 2 s why refl (sym (same_first (head_stanza (Manifest r.manifest)) s (flat_map edge_stanzas r.edges) rest (ap others same))) f
wrong_at r (Version ∷ []) (e ∷ es) s rest why is front same f = absurd front
wrong_at r (Version ∷ Manifest id ∷ []) [] s rest why is front same f = third_stanza r.edges s rest why is (sym (ap behind_heads same)) f
wrong_at r (Version ∷ Manifest id ∷ []) (e ∷ []) s rest why is front same f = wrong_edges (e ∷ []) r.edges s rest why front is (sym (ap behind_heads same)) f
wrong_at r (Version ∷ Manifest id ∷ []) (e ∷ g ∷ es) s rest why is front same f = wrong_edges (e ∷ g ∷ es) r.edges s rest why front is (sym (ap behind_heads same)) f
wrong_at r (Version ∷ Manifest id ∷ h ∷ hs) es s rest why is front same f = absurd front
wrong_at r (Version ∷ Version ∷ hs) es s rest why is front same f = absurd front
wrong_at r (Version ∷ Parent p ∷ hs) es s rest why is front same f = absurd front
wrong_at r (Manifest id ∷ hs) es s rest why is front same f = absurd front
wrong_at r (Parent p ∷ hs) es s rest why is front same f = absurd front

no_wrong : (r : Revision) (number : ℕ) (why : Fault) → AreEdges r.edges → IsWrongAt (revision_stanzas r) number why → why ≡ one.NoMemory
no_wrong r number why is f = wrong_at r f.heads f.edges f.stanza f.rest why is f.lawful f.whole f.fault

some_edge : (gs : List Edge) → AreEdges gs → flat_map edge_stanzas gs ≡ [] → ⊥
some_edge [] is_g same = absurd is_g
some_edge (g ∷ gs) is_g same = none_more (head_stanza (Parent g.parent)) (map stanza_of g.changes ++ flat_map edge_stanzas gs) same

ends_at : (r : Revision) (heads : List Head) → AreEdges r.edges → IsFront heads [] → revision_stanzas r ≡ map head_stanza heads → ⊥
ends_at r [] is front same = none_more (head_stanza Version) (head_stanza (Manifest r.manifest) ∷ flat_map edge_stanzas r.edges) same
ends_at r (Version ∷ []) is front same = none_more (head_stanza (Manifest r.manifest)) (flat_map edge_stanzas r.edges) (ap others same)
ends_at r (Version ∷ Manifest id ∷ []) is front same = some_edge r.edges is (ap behind_heads same)
ends_at r (Version ∷ Manifest id ∷ h ∷ hs) is front same = absurd front
ends_at r (Version ∷ Version ∷ hs) is front same = absurd front
ends_at r (Version ∷ Parent p ∷ hs) is front same = absurd front
ends_at r (Manifest id ∷ hs) is front same = absurd front
ends_at r (Parent p ∷ hs) is front same = absurd front

no_stanzas_fault : (r : Revision) (e : ChangeTextError) → AreEdges r.edges → IsStanzasFault (revision_stanzas r) e → e ≡ NoMemory
no_stanzas_fault r (NotText offset) is f = absurd f
no_stanzas_fault r (BadStanza number) is f = let e = no_wrong r number one.BadStanza is f in absurd (cc e)
no_stanzas_fault r (BadOrder number) is (inl f) = let e = no_wrong r number one.BadOrder is f in absurd (cc e)
no_stanzas_fault r (BadOrder number) is (inr early) = absurd (ends_at r early.heads is early.lawful early.whole)
no_stanzas_fault r (Repeated number) is f = let e = no_wrong r number one.Repeated is f in absurd (cc e)
no_stanzas_fault r (BadEdge number) is f = let e = no_wrong r number one.BadEdge is f in absurd (cc e)
no_stanzas_fault r NoMemory is f = refl

pub no_revision_fault : (text : List ℕ) (r : Revision) (e : ChangeTextError) → AreStanzas (revision_stanzas r) → IsRevisionText text r → IsRevisionFault text e → e ≡ NoMemory
no_revision_fault text r (NotText offset) ok is f = absurd (f.none (revision_stanzas r) ok is.spelled)
no_revision_fault text r (BadStanza number) ok is f = no_stanzas_fault r (BadStanza number) is.lawful (of_those text (revision_stanzas r) (λ ss. IsStanzasFault ss (BadStanza number)) ok is.spelled f)
no_revision_fault text r (BadOrder number) ok is f = no_stanzas_fault r (BadOrder number) is.lawful (of_those text (revision_stanzas r) (λ ss. IsStanzasFault ss (BadOrder number)) ok is.spelled f)
no_revision_fault text r (Repeated number) ok is f = no_stanzas_fault r (Repeated number) is.lawful (of_those text (revision_stanzas r) (λ ss. IsStanzasFault ss (Repeated number)) ok is.spelled f)
no_revision_fault text r (BadEdge number) ok is f = no_stanzas_fault r (BadEdge number) is.lawful (of_those text (revision_stanzas r) (λ ss. IsStanzasFault ss (BadEdge number)) ok is.spelled f)
no_revision_fault text r NoMemory ok is f = refl
