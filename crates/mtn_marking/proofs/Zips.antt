-- Lists that grow together, and nodes with their markings.
use Rattle.std.specs.Prelude.{map, find, option_map, option_and_then, slice_get}
use Rattle.std.specs.List.{AllZip}
use Rattle.std.proofs.Common.{◌≡◌, ℕ, zero, suc, ◌+◌, ◌<◌, ◌≤◌, Bool, true, false, cond, List, [], ◌∷◌, ◌++◌, length, take, get_or, Option, Some, None, refl, sym, ◌∙◌, ap, subst, arith}
use Rattle.std.proofs.lemmas.List.{take_more}
use Rattle.mtn_base.specs.Names.{same_name, same_bytes}
use Rattle.mtn_base.specs.declared.name.NodeName.{NodeName}
use Rattle.mtn_history_laws.specs.Scalars.{Scalar, Value, node_of, content_of, value_of}
use Rattle.mtn_history_laws.specs.Scalars.Scalar.{SlotOf, ContentOf, AttrOf}
use Rattle.mtn_history_laws.specs.Scalars.Value.{SlotValue, ContentValue, AttrValue}
use Rattle.mtn_mark_laws.specs.Rule.{IsMarkByRule}
use Rattle.std.specs.Prelude.{◌↔◌, Contains, not, is_some}
use Rattle.mtn_roster.specs.declared.entry.Attr.{Attr}
use Rattle.mtn_roster.specs.declared.entry.Body.{Body}
use Rattle.mtn_roster.specs.declared.entry.Body.TheVariants.{Dir, File}
use Rattle.mtn_roster.specs.declared.entry.Entry.{Entry}
use Rattle.mtn_roster.specs.Tree.{Tree, entry_of, attr_of, is_dir_body}
use Rattle.mtn_base.proofs.Tests.{same_name-is, same_bytes-is}
use Rattle.mtn_marking.specs.declared.node.AttrMarks.{AttrMarks}
use Rattle.mtn_marking.specs.declared.node.Marking.{Marking}
use Rattle.mtn_marking.specs.declared.node.NodeMarks.{NodeMarks}
use Rattle.mtn_marking.specs.Marking.{Marks, MarkedTree, Basis, AreFor, marks_of, marking_of, attr_marks_of, side_of, known_by, birth_by, birth_or, AreByRule, AreAllByRule, HaveBirths}
use Rattle.mtn_marking.specs.Parts.{IsMarkedAttr, IsMarkedContent, IsMarkedNode}

pub zip_more : {A B : Type 0} (R : A → B → Type 0) (xs : List A) (ys : List B) (x : A) (y : B) → AllZip R xs ys → R x y → AllZip R (xs ++ x ∷ []) (ys ++ y ∷ [])
zip_more R [] [] x y h r = (r, tt)
zip_more R [] (b ∷ ys) x y h r = absurd h
zip_more R (a ∷ xs) [] x y h r = absurd h
zip_more R (a ∷ xs) (b ∷ ys) x y h r = (h.0, zip_more R xs ys x y h.1 r)

-- one more of each, at a place of a list
pub zip_next : {A B : Type 0} (R : A → B → Type 0) (xs : List A) (ys zs : List B) (i : ℕ) (x : A) (y : B) →
    i < length xs → x ≡ get_or xs i x → AllZip R (take i xs) ys → R x y → zs ≡ ys ++ y ∷ [] → AllZip R (take (i + 1) xs) zs
zip_next R xs ys zs i x y lt is h r e =
    subst (λ l. AllZip R l zs) (sym (take_more xs i x lt ∙ ap (λ z. take i xs ++ z ∷ []) (sym is)))
    (subst (λ l. AllZip R (take i xs ++ x ∷ []) l) (sym e) (zip_more R (take i xs) ys x y h r))

pub take_past : {A : Type 0} (xs : List A) (i : ℕ) → length xs ≤ i → take i xs ≡ xs
take_past [] zero h = refl
take_past [] (suc i) h = refl
take_past (x ∷ xs) zero h = absurd (omega (arith, h))
take_past (x ∷ xs) (suc i) h = ap (λ l. x ∷ l) (take_past xs i (omega (arith, h)))

pub got_at : {A : Type 0} (xs : List A) (i : ℕ) (x : A) → slice_get xs i ≡ Some x → (i < length xs) × (x ≡ get_or xs i x)
got_at [] i x e = absurd cc
got_at (y ∷ xs) zero x e = let d : y ≡ x = cc in (omega arith, sym d)
got_at (y ∷ xs) (suc i) x e = let t = got_at xs i x e in (omega (arith, t.0), t.1)

-- all of a list
pub zip_all : {A B : Type 0} (R : A → B → Type 0) (xs : List A) (ys : List B) (i : ℕ) → length xs ≤ i → AllZip R (take i xs) ys → AllZip R xs ys
zip_all R xs ys i h z = subst (λ l. AllZip R l ys) (take_past xs i h) z

-- the marks of the attributes of a node
module _ (b : Basis) (n : NodeName) where
  abbrev IsAttr : Attr → AttrMarks → Type 0
  IsAttr = IsMarkedAttr b.at b.only_left b.only_right (known_by b.left n) (known_by b.right n)

  pub attrs_marked : (attrs : List Attr) (marks : List AttrMarks) → AllZip IsAttr attrs marks → (k : List ℕ) →
      AreByRule b (AttrOf n k) (option_map AttrValue (attr_of attrs k)) (attr_marks_of marks k)
  attrs_marked [] [] h k = tt
  attrs_marked [] (m ∷ marks) h k = absurd h
  attrs_marked (a ∷ attrs) [] h k = absurd h
  attrs_marked (a ∷ attrs) (m ∷ marks) h k = at a m attrs marks k (attrs_marked attrs marks h.1 k) h.0 (same_bytes a.key k) (same_bytes m.key k) refl (ap (λ q. same_bytes q k) h.0.key)
    where
      at : (a : Attr) (m : AttrMarks) (attrs : List Attr) (marks : List AttrMarks) (k : List ℕ) →
          AreByRule b (AttrOf n k) (option_map AttrValue (attr_of attrs k)) (attr_marks_of marks k) →
          IsMarkedAttr b.at b.only_left b.only_right (known_by b.left n) (known_by b.right n) a m →
          (r q : Bool) → same_bytes a.key k ≡ r → q ≡ same_bytes a.key k →
          AreByRule b (AttrOf n k) (option_map AttrValue (option_map (λ (a : Attr). a.value) (cond (same_bytes a.key k) (Some a) (find (λ (a : Attr). same_bytes a.key k) attrs))))
          (option_map (λ (m : AttrMarks). m.marks) (cond q (Some m) (find (λ (m : AttrMarks). same_bytes m.key k) marks)))
      at a m attrs marks k rest here true q e f =
          subst (λ z. AreByRule b (AttrOf n k) (option_map AttrValue (option_map (λ (a : Attr). a.value) (cond z (Some a) (find (λ (a : Attr). same_bytes a.key k) attrs))))
          (option_map (λ (m : AttrMarks). m.marks) (cond q (Some m) (find (λ (m : AttrMarks). same_bytes m.key k) marks)))) (sym e)
          (subst (λ z. AreByRule b (AttrOf n k) (Some (AttrValue a.value)) (option_map (λ (m : AttrMarks). m.marks) (cond z (Some m) (find (λ (m : AttrMarks). same_bytes m.key k) marks)))) (sym (f ∙ e))
          (subst (λ j. AreByRule b (AttrOf n j) (Some (AttrValue a.value)) (Some m.marks)) (same_bytes-is a.key k e) (here.marks n)))
      at a m attrs marks k rest here false q e f =
          subst (λ z. AreByRule b (AttrOf n k) (option_map AttrValue (option_map (λ (a : Attr). a.value) (cond z (Some a) (find (λ (a : Attr). same_bytes a.key k) attrs))))
          (option_map (λ (m : AttrMarks). m.marks) (cond q (Some m) (find (λ (m : AttrMarks). same_bytes m.key k) marks)))) (sym e)
          (subst (λ z. AreByRule b (AttrOf n k) (option_map AttrValue (attr_of attrs k)) (option_map (λ (m : AttrMarks). m.marks) (cond z (Some m) (find (λ (m : AttrMarks). same_bytes m.key k) marks)))) (sym (f ∙ e))
          rest)

  pub attrs_keys : (attrs : List Attr) (marks : List AttrMarks) → AllZip IsAttr attrs marks → map (λ (a : AttrMarks). a.key) marks ≡ map (λ (a : Attr). a.key) attrs
  attrs_keys [] [] h = refl
  attrs_keys [] (m ∷ marks) h = absurd h
  attrs_keys (a ∷ attrs) [] h = absurd h
  attrs_keys (a ∷ attrs) (m ∷ marks) h = λ i. h.0.key i ∷ attrs_keys attrs marks h.1 i

  pub content_marked : (body : Body) (m : Option (List ℕ)) → IsMarkedContent n b.at b.only_left b.only_right (known_by b.left n) (known_by b.right n) body m →
      AreByRule b (ContentOf n) (option_map ContentValue (content_of body)) m
  content_marked Dir None h = tt
  content_marked Dir (Some marks) h = h
  content_marked (File content) None h = h
  content_marked (File content) (Some marks) h = h

pub content_fits : (n : NodeName) (at : ℕ) (ol or : List ℕ) (l r : Option (Entry × Marking)) (body : Body) (m : Option (List ℕ)) → IsMarkedContent n at ol or l r body m →
    is_some m ≡ not (is_dir_body body)
content_fits n at ol or l r Dir None h = refl
content_fits n at ol or l r Dir (Some marks) h = absurd h
content_fits n at ol or l r (File content) None h = absurd h
content_fits n at ol or l r (File content) (Some marks) h = refl

-- a node whose parts are marked, by what the parents have of it
pub node_marked : (b : Basis) (e : Entry) (m : NodeMarks) (kl kr : Option (Entry × Marking)) → kl ≡ known_by b.left e.name → kr ≡ known_by b.right e.name →
    m.name ≡ e.name → m.marking.birth ≡ birth_or kl (birth_or kr b.at) →
    ((x : ℕ) → Contains m.marking.slot x ↔ IsMarkByRule Value b.at (SlotValue e.slot) b.only_left b.only_right (side_of (SlotOf e.name) kl) (side_of (SlotOf e.name) kr) x) →
    IsMarkedContent e.name b.at b.only_left b.only_right kl kr e.body m.marking.content →
    AllZip (IsMarkedAttr b.at b.only_left b.only_right kl kr) e.attrs m.marking.attrs →
    IsMarkedNode b e m
node_marked b e m kl kr el er name birth slot content attrs =
    let n = e.name in
    let slot' : AreByRule b (SlotOf n) (Some (SlotValue e.slot)) (Some m.marking.slot) =
    subst (λ k. (x : ℕ) → Contains m.marking.slot x ↔ IsMarkByRule Value b.at (SlotValue e.slot) b.only_left b.only_right (side_of (SlotOf n) (known_by b.left n)) (side_of (SlotOf n) k) x) er
    (subst (λ k. (x : ℕ) → Contains m.marking.slot x ↔ IsMarkByRule Value b.at (SlotValue e.slot) b.only_left b.only_right (side_of (SlotOf n) k) (side_of (SlotOf n) kr) x) el slot) in
    let content' : IsMarkedContent n b.at b.only_left b.only_right (known_by b.left n) (known_by b.right n) e.body m.marking.content =
    subst (λ k. IsMarkedContent n b.at b.only_left b.only_right (known_by b.left n) k e.body m.marking.content) er
    (subst (λ k. IsMarkedContent n b.at b.only_left b.only_right k kr e.body m.marking.content) el content) in
    let attrs' : AllZip (IsMarkedAttr b.at b.only_left b.only_right (known_by b.left n) (known_by b.right n)) e.attrs m.marking.attrs =
    subst (λ k. AllZip (IsMarkedAttr b.at b.only_left b.only_right (known_by b.left n) k) e.attrs m.marking.attrs) er
    (subst (λ k. AllZip (IsMarkedAttr b.at b.only_left b.only_right k kr) e.attrs m.marking.attrs) el attrs) in
    record {
      fits = record { name = name; content = content_fits n b.at b.only_left b.only_right kl kr e.body m.marking.content content; keys = attrs_keys b n e.attrs m.marking.attrs attrs' };
      birth = birth ∙ (λ i. birth_or (el i) (birth_or (er i) b.at));
      each = each slot' content' attrs';
    }
  where
    each : AreByRule b (SlotOf e.name) (Some (SlotValue e.slot)) (Some m.marking.slot) →
        IsMarkedContent e.name b.at b.only_left b.only_right (known_by b.left e.name) (known_by b.right e.name) e.body m.marking.content →
        AllZip (IsMarkedAttr b.at b.only_left b.only_right (known_by b.left e.name) (known_by b.right e.name)) e.attrs m.marking.attrs →
        (s : Scalar) → node_of s ≡ e.name → AreByRule b s (value_of s e) (marks_of s m.marking)
    each sl co at (SlotOf n) h = subst (λ k. AreByRule b (SlotOf k) (Some (SlotValue e.slot)) (Some m.marking.slot)) (sym h) sl
    each sl co at (ContentOf n) h = subst (λ k. AreByRule b (ContentOf k) (option_map ContentValue (content_of e.body)) m.marking.content) (sym h) (content_marked b e.name e.body m.marking.content co)
    each sl co at (AttrOf n k) h = subst (λ j. AreByRule b (AttrOf j k) (option_map AttrValue (attr_of e.attrs k)) (attr_marks_of m.marking.attrs k)) (sym h) (attrs_marked b e.name e.attrs m.marking.attrs at k)

-- a fact on what a tree and the marks have at a name, by what holds of each node of that name
module _ (R : Entry → NodeMarks → Type 0) (named : (e : Entry) (m : NodeMarks) → R e m → m.name ≡ e.name)
    (n : NodeName) (P : Option Entry → Option Marking → Type 0) (none : P None None)
    (each : (e : Entry) (m : NodeMarks) → e.name ≡ n → R e m → P (Some e) (Some m.marking)) where
  pub at_name : (t : Tree) (ms : Marks) → AllZip R t ms → P (entry_of t n) (marking_of ms n)
  at_name [] [] h = none
  at_name [] (m ∷ ms) h = absurd h
  at_name (e ∷ t) [] h = absurd h
  at_name (e ∷ t) (m ∷ ms) h = at e m t ms (at_name t ms h.1) h.0 (same_name e.name n) (same_name m.name n) refl (ap (λ q. same_name q n) (named e m h.0))
    where
      at : (e : Entry) (m : NodeMarks) (t : Tree) (ms : Marks) → P (entry_of t n) (marking_of ms n) → R e m →
          (r q : Bool) → same_name e.name n ≡ r → q ≡ same_name e.name n →
          P (cond (same_name e.name n) (Some e) (entry_of t n)) (option_map (λ (m : NodeMarks). m.marking) (cond q (Some m) (find (λ (m : NodeMarks). same_name m.name n) ms)))
      at e m t ms rest here true q g f =
          subst (λ z. P (cond z (Some e) (entry_of t n)) (option_map (λ (m : NodeMarks). m.marking) (cond q (Some m) (find (λ (m : NodeMarks). same_name m.name n) ms)))) (sym g)
          (subst (λ z. P (Some e) (option_map (λ (m : NodeMarks). m.marking) (cond z (Some m) (find (λ (m : NodeMarks). same_name m.name n) ms)))) (sym (f ∙ g))
          (each e m (same_name-is e.name n g) here))
      at e m t ms rest here false q g f =
          subst (λ z. P (cond z (Some e) (entry_of t n)) (option_map (λ (m : NodeMarks). m.marking) (cond q (Some m) (find (λ (m : NodeMarks). same_name m.name n) ms)))) (sym g)
          (subst (λ z. P (entry_of t n) (option_map (λ (m : NodeMarks). m.marking) (cond z (Some m) (find (λ (m : NodeMarks). same_name m.name n) ms)))) (sym (f ∙ g))
          rest)

-- what holds of each node and its marking holds of the tree and the marks
module _ (b : Basis) where
  pub all_fit : (t : Tree) (ms : Marks) → AllZip (IsMarkedNode b) t ms → AreFor t ms
  all_fit [] [] h = tt
  all_fit [] (m ∷ ms) h = h
  all_fit (e ∷ t) [] h = h
  all_fit (e ∷ t) (m ∷ ms) h = (h.0.fits, all_fit t ms h.1)

  pub same_names : (t : Tree) (ms : Marks) → AllZip (IsMarkedNode b) t ms → map (λ (m : NodeMarks). m.name) ms ≡ map (λ (e : Entry). e.name) t
  same_names [] [] h = refl
  same_names [] (m ∷ ms) h = absurd h
  same_names (e ∷ t) [] h = absurd h
  same_names (e ∷ t) (m ∷ ms) h = λ i. h.0.fits.name i ∷ same_names t ms h.1 i

  pub all_by_rule : (t : Tree) (ms : Marks) → AllZip (IsMarkedNode b) t ms → AreAllByRule b t ms
  all_by_rule t ms h s =
      at_name (IsMarkedNode b) (λ e m k. k.fits.name) (node_of s) (λ e m. AreByRule b s (option_and_then (value_of s) e) (option_and_then (marks_of s) m)) tt (λ e m g k. k.each s (sym g)) t ms h

  pub all_births : (t : Tree) (ms : Marks) → AllZip (IsMarkedNode b) t ms → HaveBirths b t ms
  all_births t ms h n =
      at_name (IsMarkedNode b) (λ e m k. k.fits.name) n (λ e m. option_map (λ (m : Marking). m.birth) m ≡ option_map (λ (e : Entry). birth_by b n) e) refl
      (λ e m g k. ap Some (k.birth ∙ ap (birth_by b) g)) t ms h

pub by_basis : (t : Tree) (ms : Marks) (a b : Basis) → a ≡ b → AllZip (IsMarkedNode a) t ms → AllZip (IsMarkedNode b) t ms
by_basis t ms a b e h = subst (λ z. AllZip (IsMarkedNode z) t ms) e h

-- sets without positions
pub by_nothing : (t : Tree) (ms : Marks) (a : Basis) (at : ℕ) (l r : Option MarkedTree) (set : List ℕ) → a ≡ record { at = at; left = l; right = r; only_left = set; only_right = set } → set ≡ [] →
    AllZip (IsMarkedNode a) t ms → AllZip (IsMarkedNode (record { at = at; left = l; right = r; only_left = []; only_right = [] })) t ms
by_nothing t ms a at l r set e f h =
    subst (λ z. AllZip (IsMarkedNode (record { at = at; left = l; right = r; only_left = z; only_right = z })) t ms) f (by_basis t ms a _ e h)
