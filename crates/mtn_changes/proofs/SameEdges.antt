-- The same stanzas in two ways: edges, and a stanza with a fault behind them.
use Rattle.std.proofs.Common.{◌≡◌, ◌≢◌, ◌⊎◌, List, [], ◌∷◌, ◌++◌, map, Option, refl, sym, ap, subst, ◌∙◌, inl, inr}
use Rattle.std.specs.List.{flat_map}
use Rattle.std.proofs.lemmas.List.{append-nil}
use Rattle.mtn_base.specs.declared.id.Id.{Id}
use Rattle.mtn_basic_io.specs.Spelling.{LineText}
use Rattle.mtn_changes.specs.declared.change.Change.{Change}
use Rattle.mtn_changes.specs.declared.change.Edge.{Edge}
use Rattle.mtn_changes.specs.declared.head.Head.{Head}
use Rattle.mtn_changes.specs.declared.head.Head.TheVariants.{Parent}
use Rattle.mtn_changes.specs.declared.order.Fault.{Fault}
use Rattle.mtn_changes.specs.declared.order.Fault.TheVariants.{NoMemory}
use Rattle.mtn_changes.specs.Stanzas.{stanza_of}
use Rattle.mtn_changes.specs.Heads.{head_stanza}
use Rattle.mtn_changes.specs.Lists.{IsFault}
use Rattle.mtn_changes.specs.ChangesText.{AreChanges}
use Rattle.mtn_changes.specs.RevisionText.{edge_stanzas, Ascend, AreEdges, IsOnlyEdgeFault, IsNextFault}
use Rattle.mtn_changes.proofs.Decoded.{one_change, one_parent}
use Rattle.mtn_changes.proofs.Edges.{join2}
use Rattle.mtn_changes.proofs.Splits.{same_first, same_others, Each, no_change_at, Inside, Cut, cut, one_run, each, stands_at, no_fault_inside}
use Rattle.mtn_changes.proofs.OneCause.{only_inside, only_behind}

-- ---- changes

-- one of the stanzas stands among the other's changes, or both stand behind the same
abbrev Met : List Change → List LineText → List Change → List LineText → Type 0
Met cs s ds t = Inside cs s ds ⊎ (Inside ds t cs ⊎ ((cs ≡ ds) × (s ≡ t)))

one_more : (c : Change) (cs ds : List Change) (s t : List LineText) → Met cs s ds t → Met (c ∷ cs) s (c ∷ ds) t
one_more c cs ds s t (inl i) = inl (record { change = i.change; more = i.more; parts = ap (λ (xs : List Change). c ∷ xs) i.parts; spelled = i.spelled })
one_more c cs ds s t (inr (inl i)) = inr (inl (record { change = i.change; more = i.more; parts = ap (λ (xs : List Change). c ∷ xs) i.parts; spelled = i.spelled }))
one_more c cs ds s t (inr (inr m)) = inr (inr (ap (λ (xs : List Change). c ∷ xs) m.0, m.1))

meet : (cs ds : List Change) (s t : List LineText) (rest more : List (List LineText)) → Each cs → Each ds → map stanza_of cs ++ s ∷ rest ≡ map stanza_of ds ++ t ∷ more → Met cs s ds t
meet [] [] s t rest more each_c each_d same = inr (inr (refl, same_first s t rest more same))
meet [] (d ∷ ds) s t rest more each_c each_d same = inl (record { change = d; more = ds; parts = refl; spelled = same_first s (stanza_of d) rest (map stanza_of ds ++ t ∷ more) same })
meet (c ∷ cs) [] s t rest more each_c each_d same =
    inr (inl (record { change = c; more = cs; parts = refl; spelled = same_first t (stanza_of c) more (map stanza_of cs ++ s ∷ rest) (sym same) }))
meet (c ∷ cs) (d ∷ ds) s t rest more each_c each_d same =
    let e : c ≡ d = one_change c d each_c.0 each_d.0 (same_first (stanza_of c) (stanza_of d) (map stanza_of cs ++ s ∷ rest) (map stanza_of ds ++ t ∷ more) same) in
    let met : Met cs s ds t = meet cs ds s t rest more each_c.1 each_d.1 (same_others (stanza_of c) (stanza_of d) (map stanza_of cs ++ s ∷ rest) (map stanza_of ds ++ t ∷ more) same) in
    subst (λ (x : Change). Met (c ∷ cs) s (x ∷ ds) t) e (one_more c cs ds s t met)

-- ---- edges

-- a list of edges with what follows it
loose1 : (e : Edge) (more : List (List LineText)) → flat_map edge_stanzas (e ∷ []) ++ more ≡ head_stanza (Parent e.parent) ∷ (map stanza_of e.changes ++ more)
loose1 e more = ap (λ (us : List (List LineText)). head_stanza (Parent e.parent) ∷ (us ++ more)) (append-nil (map stanza_of e.changes))

loose2 : (e f : Edge) (more : List (List LineText))
    → flat_map edge_stanzas (e ∷ f ∷ []) ++ more ≡ head_stanza (Parent e.parent) ∷ (map stanza_of e.changes ++ head_stanza (Parent f.parent) ∷ (map stanza_of f.changes ++ more))
loose2 e f more = sym (join2 e.parent f.parent e.changes f.changes more)

same_edge : (e f : Edge) → e.parent ≡ f.parent → e.changes ≡ f.changes → e ≡ f
same_edge e f p c =
    ap (λ (q : Option Id). let g : Edge = record { parent = q; changes = e.changes } in g) p ∙ ap (λ (cs : List Change). let g : Edge = record { parent = f.parent; changes = cs } in g) c

-- the stanzas of an edge and of what follows, twice
module _ (e f : Edge) (y z : List (List LineText)) (same : head_stanza (Parent e.parent) ∷ (map stanza_of e.changes ++ y) ≡ head_stanza (Parent f.parent) ∷ (map stanza_of f.changes ++ z)) where
  parents : e.parent ≡ f.parent
  parents = one_parent e.parent f.parent (same_first (head_stanza (Parent e.parent)) (head_stanza (Parent f.parent)) (map stanza_of e.changes ++ y) (map stanza_of f.changes ++ z) same)

  runs : map stanza_of e.changes ++ y ≡ map stanza_of f.changes ++ z
  runs = same_others (head_stanza (Parent e.parent)) (head_stanza (Parent f.parent)) (map stanza_of e.changes ++ y) (map stanza_of f.changes ++ z) same

-- the same edges and the same stanza behind them
abbrev pub SameEdges : List Edge → List LineText → List Edge → List LineText → Type 0
SameEdges es s fs t = (es ≡ fs) × (s ≡ t)

-- behind one edge each
one_and_one : (e g : Edge) (s t : List LineText) (rest more : List (List LineText)) (a b : Fault) → a ≢ NoMemory → b ≢ NoMemory → AreChanges e.changes → AreChanges g.changes
    → flat_map edge_stanzas (e ∷ []) ++ s ∷ rest ≡ flat_map edge_stanzas (g ∷ []) ++ t ∷ more → IsOnlyEdgeFault e s a → IsOnlyEdgeFault g t b → SameEdges (e ∷ []) s (g ∷ []) t
one_and_one e g s t rest more a b na nb is_e is_g same f k =
    at (meet e.changes g.changes s t rest more (each e.changes is_e) (each g.changes is_g) (runs e g (s ∷ rest) (t ∷ more) whole)) where
      whole : head_stanza (Parent e.parent) ∷ (map stanza_of e.changes ++ s ∷ rest) ≡ head_stanza (Parent g.parent) ∷ (map stanza_of g.changes ++ t ∷ more)
      whole = sym (loose1 e (s ∷ rest)) ∙ same ∙ loose1 g (t ∷ more)

      at : Met e.changes s g.changes t → SameEdges (e ∷ []) s (g ∷ []) t
      at (inl i) = absurd (na (only_inside e i.change s a (stands_at e.changes i.change i.more g.changes is_g i.parts) i.spelled f))
      at (inr (inl i)) = absurd (nb (only_inside g i.change t b (stands_at g.changes i.change i.more e.changes is_e i.parts) i.spelled k))
      at (inr (inr m)) = (ap (λ (x : Edge). x ∷ []) (same_edge e g (parents e g (s ∷ rest) (t ∷ more) whole) m.0), m.1)

-- a stanza with a fault behind one edge, where two may stand
one_and_two : (e g k : Edge) (s : List LineText) (rest more : List (List LineText)) (why : Fault) → AreChanges e.changes → AreChanges g.changes → Ascend g.parent k.parent
    → flat_map edge_stanzas (e ∷ []) ++ s ∷ rest ≡ flat_map edge_stanzas (g ∷ k ∷ []) ++ more → IsOnlyEdgeFault e s why → why ≡ NoMemory
one_and_two e g k s rest more why is_e is_g up same f =
    at (cut e.changes g.changes s rest last (each e.changes is_e) (each g.changes is_g) (no_change_at (Parent k.parent) (map stanza_of k.changes ++ more)) (runs e g (s ∷ rest) last whole)) where
      last : List (List LineText)
      last = head_stanza (Parent k.parent) ∷ (map stanza_of k.changes ++ more)

      whole : head_stanza (Parent e.parent) ∷ (map stanza_of e.changes ++ s ∷ rest) ≡ head_stanza (Parent g.parent) ∷ (map stanza_of g.changes ++ last)
      whole = sym (loose1 e (s ∷ rest)) ∙ same ∙ loose2 g k more

      at : Cut e.changes s rest g.changes last → why ≡ NoMemory
      at (inl i) = only_inside e i.change s why (stands_at e.changes i.change i.more g.changes is_g i.parts) i.spelled f
      at (inr behind) =
          only_behind e k.parent s why (subst (λ (p : Option Id). Ascend p k.parent) (sym (parents e g (s ∷ rest) last whole)) up) (same_first s (head_stanza (Parent k.parent)) rest (map stanza_of k.changes ++ more) behind.left) f

-- behind two edges each
last_two : (e f g k : Edge) (s t : List LineText) (rest more : List (List LineText)) (a b : Fault) → a ≢ NoMemory → b ≢ NoMemory → AreChanges f.changes → AreChanges k.changes → e ≡ g
    → head_stanza (Parent f.parent) ∷ (map stanza_of f.changes ++ s ∷ rest) ≡ head_stanza (Parent k.parent) ∷ (map stanza_of k.changes ++ t ∷ more)
    → IsFault f.changes s a → IsFault k.changes t b → SameEdges (e ∷ f ∷ []) s (g ∷ k ∷ []) t
last_two e f g k s t rest more a b na nb is_f is_k first same w x =
    at (meet f.changes k.changes s t rest more (each f.changes is_f) (each k.changes is_k) (runs f k (s ∷ rest) (t ∷ more) same)) where
      at : Met f.changes s k.changes t → SameEdges (e ∷ f ∷ []) s (g ∷ k ∷ []) t
      at (inl i) = absurd (na (no_fault_inside f.changes k.changes s a is_k i w))
      at (inr (inl i)) = absurd (nb (no_fault_inside k.changes f.changes t b is_f i x))
      at (inr (inr m)) =
          (ap (λ (y : Edge). y ∷ f ∷ []) first ∙ ap (λ (y : Edge). g ∷ y ∷ []) (same_edge f k (parents f k (s ∷ rest) (t ∷ more) same) m.0), m.1)

two_and_two : (e f g k : Edge) (s t : List LineText) (rest more : List (List LineText)) (a b : Fault) → a ≢ NoMemory → b ≢ NoMemory → AreEdges (e ∷ f ∷ []) → AreEdges (g ∷ k ∷ [])
    → flat_map edge_stanzas (e ∷ f ∷ []) ++ s ∷ rest ≡ flat_map edge_stanzas (g ∷ k ∷ []) ++ t ∷ more → IsFault f.changes s a → IsFault k.changes t b → SameEdges (e ∷ f ∷ []) s (g ∷ k ∷ []) t
two_and_two e f g k s t rest more a b na nb is_e is_g same w x =
    let y = map stanza_of f.changes ++ s ∷ rest in
    let z = map stanza_of k.changes ++ t ∷ more in
    let whole = sym (loose2 e f (s ∷ rest)) ∙ same ∙ loose2 g k (t ∷ more) in
    let run =
    one_run e.changes g.changes (head_stanza (Parent f.parent) ∷ y) (head_stanza (Parent k.parent) ∷ z) (each e.changes is_e.0) (each g.changes is_g.0) (no_change_at (Parent f.parent) y) (no_change_at (Parent k.parent) z) (runs e g (head_stanza (Parent f.parent) ∷ y) (head_stanza (Parent k.parent) ∷ z) whole) in
    let first : e ≡ g = same_edge e g (parents e g (head_stanza (Parent f.parent) ∷ y) (head_stanza (Parent k.parent) ∷ z) whole) run.changes in
    last_two e f g k s t rest more a b na nb is_e.1 is_g.1 first run.left w x

pub edges_meet : (hs ks : List Head) (es gs : List Edge) (s t : List LineText) (rest more : List (List LineText)) (a b : Fault) → a ≢ NoMemory → b ≢ NoMemory → AreEdges es → AreEdges gs
    → flat_map edge_stanzas es ++ s ∷ rest ≡ flat_map edge_stanzas gs ++ t ∷ more → IsNextFault hs es s a → IsNextFault ks gs t b → SameEdges es s gs t
edges_meet hs ks [] gs s t rest more a b na nb is_e is_g same w x = absurd is_e
edges_meet hs ks (e ∷ es) [] s t rest more a b na nb is_e is_g same w x = absurd is_g
edges_meet hs ks (e ∷ []) (g ∷ []) s t rest more a b na nb is_e is_g same w x = one_and_one e g s t rest more a b na nb is_e is_g same w x
edges_meet hs ks (e ∷ []) (g ∷ k ∷ []) s t rest more a b na nb is_e is_g same w x = absurd (na (one_and_two e g k s rest (t ∷ more) a is_e is_g.0 is_g.2 same w))
edges_meet hs ks (e ∷ f ∷ []) (g ∷ []) s t rest more a b na nb is_e is_g same w x = absurd (nb (one_and_two g e f t more (s ∷ rest) b is_g is_e.0 is_e.2 (sym same) x))
edges_meet hs ks (e ∷ f ∷ []) (g ∷ k ∷ []) s t rest more a b na nb is_e is_g same w x = two_and_two e f g k s t rest more a b na nb is_e is_g same w x
edges_meet hs ks (e ∷ []) (g ∷ k ∷ l ∷ gs) s t rest more a b na nb is_e is_g same w x = absurd is_g
edges_meet hs ks (e ∷ f ∷ []) (g ∷ k ∷ l ∷ gs) s t rest more a b na nb is_e is_g same w x = absurd is_g
edges_meet hs ks (e ∷ f ∷ h ∷ es) (g ∷ gs) s t rest more a b na nb is_e is_g same w x = absurd is_e
