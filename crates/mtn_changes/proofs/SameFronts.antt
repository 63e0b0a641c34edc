-- The same stanzas in two ways: a front, and a stanza with a fault behind it.
use Rattle.std.proofs.Common.{◌≡◌, ◌≢◌, ◌⊎◌, ℕ, suc, ◌+◌, ◌<◌, ◌≤◌, List, [], ◌∷◌, ◌++◌, length, map, refl, sym, ap, subst, ◌∙◌, inl, inr, arith}
use Rattle.std.specs.List.{flat_map}
use Rattle.std.proofs.lemmas.List.{append-nil}
use Rattle.mtn_basic_io.specs.Spelling.{LineText}
use Rattle.mtn_changes.specs.declared.change.Edge.{Edge}
use Rattle.mtn_changes.specs.declared.head.Head.{Head}
use Rattle.mtn_changes.specs.declared.head.Head.TheVariants.{Version, Manifest, Parent}
use Rattle.mtn_changes.specs.declared.order.Fault.{Fault}
use Rattle.mtn_changes.specs.declared.order.Fault.TheVariants.{NoMemory}
use Rattle.mtn_changes.specs.Stanzas.{stanza_of}
use Rattle.mtn_changes.specs.Heads.{head_stanza, head_rank}
use Rattle.mtn_changes.specs.RevisionText.{edge_stanzas, AreEdges, IsFront, IsNextFault}
use Rattle.mtn_changes.proofs.Decoded.{one_head}
use Rattle.mtn_changes.proofs.Splits.{same_first, same_others, none_more}
use Rattle.mtn_changes.proofs.OneCause.{right_head}
use Rattle.mtn_changes.proofs.SameEdges.{SameEdges, edges_meet}

-- ---- heads

-- their ranks go up from one
abbrev Rise : ℕ → List Head → Type 0
Rise r [] = Unit {0}
Rise r (h ∷ hs) = (head_rank h ≡ r) × Rise (suc r) hs

-- the head of a rank stands first
abbrev HeadAt : ℕ → List (List LineText) → Type 0
HeadAt r [] = ⊥
HeadAt r (s ∷ ss) = (h : Head) × (head_rank h ≡ r) × (s ≡ head_stanza h)

-- there are fewer, and the next one follows
record Fewer (r : ℕ) (hs ks : List Head) (y : List (List LineText)) : Type 0 where
  pub less : length hs < length ks
  pub head : HeadAt (r + length hs) y

abbrev Met : ℕ → List Head → List (List LineText) → List Head → List (List LineText) → Type 0
Met r hs y ks z = Fewer r hs ks y ⊎ (Fewer r ks hs z ⊎ ((hs ≡ ks) × (y ≡ z)))

fewer : (r : ℕ) (h k : Head) (hs ks : List Head) (y : List (List LineText)) → Fewer (suc r) hs ks y → Fewer r (h ∷ hs) (k ∷ ks) y
fewer r h k hs ks y f =
    let e : suc r + length hs ≡ r + length (h ∷ hs) = omega arith in
    record { less = omega (arith, f.less); head = subst (λ (n : ℕ). HeadAt n y) e f.head }

one_more : (r : ℕ) (h k : Head) (hs ks : List Head) (y z : List (List LineText)) → h ≡ k → Met (suc r) hs y ks z → Met r (h ∷ hs) y (k ∷ ks) z
one_more r h k hs ks y z e (inl f) = inl (fewer r h k hs ks y f)
one_more r h k hs ks y z e (inr (inl f)) = inr (inl (fewer r k h ks hs z f))
one_more r h k hs ks y z e (inr (inr m)) = inr (inr (ap (λ (x : Head). x ∷ hs) e ∙ ap (λ (xs : List Head). k ∷ xs) m.0, m.1))

next_head : (r : ℕ) (k : Head) (ks : List Head) (y z : List (List LineText)) → head_rank k ≡ r → y ≡ head_stanza k ∷ (map head_stanza ks ++ z) → Fewer r [] (k ∷ ks) y
next_head r k ks y z is same =
    let none : List Head = [] in
    let e : head_rank k ≡ r + length none = omega (arith, is) in
    record { less = omega arith; head = subst (λ (us : List (List LineText)). HeadAt (r + length none) us) (sym same) (k, e, refl) }

meet : (r : ℕ) (hs ks : List Head) (y z : List (List LineText)) → Rise r hs → Rise r ks → map head_stanza hs ++ y ≡ map head_stanza ks ++ z → Met r hs y ks z
meet r [] [] y z rise_h rise_k same = inr (inr (refl, same))
meet r [] (k ∷ ks) y z rise_h rise_k same = inl (next_head r k ks y z rise_k.0 same)
meet r (h ∷ hs) [] y z rise_h rise_k same = inr (inl (next_head r h hs z y rise_h.0 (sym same)))
meet r (h ∷ hs) (k ∷ ks) y z rise_h rise_k same =
    let e : h ≡ k = one_head h k (same_first (head_stanza h) (head_stanza k) (map head_stanza hs ++ y) (map head_stanza ks ++ z) same) in
    one_more r h k hs ks y z e (meet (suc r) hs ks y z rise_h.1 rise_k.1 (same_others (head_stanza h) (head_stanza k) (map head_stanza hs ++ y) (map head_stanza ks ++ z) same))

-- ---- fronts

rise : (hs : List Head) (es : List Edge) → IsFront hs es → Rise 1 hs × (length hs ≤ 2)
rise [] es front = (tt, omega arith)
rise (Version ∷ []) es front = ((refl, tt), omega arith)
rise (Version ∷ Manifest id ∷ []) es front = ((refl, (refl, tt)), omega arith)
rise (Version ∷ Manifest id ∷ h ∷ hs) es front = absurd front
rise (Version ∷ Version ∷ hs) es front = absurd front
rise (Version ∷ Parent p ∷ hs) es front = absurd front
rise (Manifest id ∷ hs) es front = absurd front
rise (Parent p ∷ hs) es front = absurd front

-- edges stand behind both heads
both : (hs : List Head) (e : Edge) (es : List Edge) → IsFront hs (e ∷ es) → (length hs ≡ 2) × AreEdges (e ∷ es)
both [] e es front = absurd front
both (Version ∷ []) e es front = absurd front
both (Version ∷ Manifest id ∷ []) e es front = (refl, front)
both (Version ∷ Manifest id ∷ h ∷ hs) e es front = absurd front
both (Version ∷ Version ∷ hs) e es front = absurd front
both (Version ∷ Parent p ∷ hs) e es front = absurd front
both (Manifest id ∷ hs) e es front = absurd front
both (Parent p ∷ hs) e es front = absurd front

-- no stanza with a fault stands where the next head does
not_fewer : (hs ks : List Head) (es : List Edge) (s : List LineText) (rest : List (List LineText)) (why : Fault) → why ≢ NoMemory → IsFront hs es → length ks ≤ 2
    → Fewer 1 hs ks (flat_map edge_stanzas es ++ s ∷ rest) → IsNextFault hs es s why → ⊥
not_fewer hs ks [] s rest why some front le f w =
    let e : head_rank f.head.0 ≡ length hs + 1 = omega (arith, f.head.1) in
    some (right_head f.head.0 (length hs + 1) s why e f.head.2 w)
not_fewer hs ks (e ∷ es) s rest why some front le f w = omega (arith, le, f.less, (both hs e es front).0)

-- nor where the first edge begins
no_edge : (hs : List Head) (e : Edge) (es : List Edge) (s : List LineText) (rest more : List (List LineText)) (why : Fault) → why ≢ NoMemory → IsFront hs (e ∷ es)
    → s ∷ rest ≡ flat_map edge_stanzas (e ∷ es) ++ more → IsNextFault hs [] s why → ⊥
no_edge hs e es s rest more why some front same w =
    let r : 3 ≡ length hs + 1 = omega (arith, (both hs e es front).0) in
    some (right_head (Parent e.parent) (length hs + 1) s why r (same_first s (head_stanza (Parent e.parent)) rest ((map stanza_of e.changes ++ flat_map edge_stanzas es) ++ more) same) w)

-- behind the same heads
behind_heads : (hs : List Head) (es gs : List Edge) (s t : List LineText) (rest more : List (List LineText)) (a b : Fault) → a ≢ NoMemory → b ≢ NoMemory → IsFront hs es → IsFront hs gs
    → flat_map edge_stanzas es ++ s ∷ rest ≡ flat_map edge_stanzas gs ++ t ∷ more → IsNextFault hs es s a → IsNextFault hs gs t b → SameEdges es s gs t
behind_heads hs [] [] s t rest more a b na nb front_e front_g same w x = (refl, same_first s t rest more same)
behind_heads hs [] (g ∷ gs) s t rest more a b na nb front_e front_g same w x = absurd (no_edge hs g gs s rest (t ∷ more) a na front_g same w)
behind_heads hs (e ∷ es) [] s t rest more a b na nb front_e front_g same w x = absurd (no_edge hs e es t more (s ∷ rest) b nb front_e (sym same) x)
behind_heads hs (e ∷ es) (g ∷ gs) s t rest more a b na nb front_e front_g same w x =
    edges_meet hs hs (e ∷ es) (g ∷ gs) s t rest more a b na nb (both hs e es front_e).1 (both hs g gs front_g).1 same w x

-- the same front and the same stanza behind it
pub record SameFront (hs : List Head) (es : List Edge) (s : List LineText) (ks : List Head) (gs : List Edge) (t : List LineText) : Type 0 where
  pub heads : hs ≡ ks
  pub edges : es ≡ gs
  pub stanza : s ≡ t

pub fronts_meet : (hs ks : List Head) (es gs : List Edge) (s t : List LineText) (rest more : List (List LineText)) (a b : Fault) → a ≢ NoMemory → b ≢ NoMemory → IsFront hs es → IsFront ks gs
    → map head_stanza hs ++ (flat_map edge_stanzas es ++ s ∷ rest) ≡ map head_stanza ks ++ (flat_map edge_stanzas gs ++ t ∷ more) → IsNextFault hs es s a → IsNextFault ks gs t b → SameFront hs es s ks gs t
fronts_meet hs ks es gs s t rest more a b na nb front_h front_k same w x = at (meet 1 hs ks y z (rise hs es front_h).0 (rise ks gs front_k).0 same) where
  y : List (List LineText)
  y = flat_map edge_stanzas es ++ s ∷ rest

  z : List (List LineText)
  z = flat_map edge_stanzas gs ++ t ∷ more

  at : Met 1 hs y ks z → SameFront hs es s ks gs t
  at (inl f) = absurd (not_fewer hs ks es s rest a na front_h (rise ks gs front_k).1 f w)
  at (inr (inl f)) = absurd (not_fewer ks hs gs t more b nb front_k (rise hs es front_h).1 f x)
  at (inr (inr m)) =
      let back : ks ≡ hs = sym m.0 in
      let found = behind_heads hs es gs s t rest more a b na nb front_h (subst (λ (xs : List Head). IsFront xs gs) back front_k) m.1 w (subst (λ (xs : List Head). IsNextFault xs gs t b) back x) in
      record { heads = m.0; edges = found.0; stanza = found.1 }

-- ---- stanzas that end early

some_stanza : (es : List Edge) (s : List LineText) (rest : List (List LineText)) → [] ≡ flat_map edge_stanzas es ++ s ∷ rest → ⊥
some_stanza [] s rest same = none_more s rest (sym same)
some_stanza (e ∷ es) s rest same = none_more (head_stanza (Parent e.parent)) ((map stanza_of e.changes ++ flat_map edge_stanzas es) ++ s ∷ rest) (sym same)

pub no_end : (hs ks : List Head) (gs : List Edge) (t : List LineText) (more : List (List LineText)) (why : Fault) → why ≢ NoMemory → IsFront hs [] → IsFront ks gs
    → map head_stanza hs ≡ map head_stanza ks ++ (flat_map edge_stanzas gs ++ t ∷ more) → IsNextFault ks gs t why → ⊥
no_end hs ks gs t more why some front_h front_k same x = at (meet 1 hs ks [] z (rise hs [] front_h).0 (rise ks gs front_k).0 (append-nil (map head_stanza hs) ∙ same)) where
  z : List (List LineText)
  z = flat_map edge_stanzas gs ++ t ∷ more

  at : Met 1 hs [] ks z → ⊥
  at (inl f) = f.head
  at (inr (inl f)) = not_fewer ks hs gs t more why some front_k (rise hs [] front_h).1 f x
  at (inr (inr m)) = some_stanza gs t more m.1

pub one_end : (hs ks : List Head) → IsFront hs [] → IsFront ks [] → map head_stanza hs ≡ map head_stanza ks → hs ≡ ks
one_end hs ks front_h front_k same =
    at (meet 1 hs ks [] [] (rise hs [] front_h).0 (rise ks [] front_k).0 (append-nil (map head_stanza hs) ∙ same ∙ sym (append-nil (map head_stanza ks)))) where
      at : Met 1 hs [] ks [] → hs ≡ ks
      at (inl f) = absurd f.head
      at (inr (inl f)) = absurd f.head
      at (inr (inr m)) = m.0
