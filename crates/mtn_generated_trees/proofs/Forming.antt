-- A tree that has its scalars from two tips has their form.
use Rattle.std.specs.Prelude.{codes, decimal, option_and_then, option_map, reverse}
use Rattle.std.proofs.Common.{◌≡◌, ◌<◌, ◌≤◌, ℕ, List, [], ◌∷◌, ◌++◌, Option, Some, None, refl, sym, ◌∙◌, ap, subst, inl, inr, arith}
use Rattle.mtn_base.specs.declared.id.Id.{Id}
use Rattle.mtn_between.proofs.Same.{same_attrs}
use Rattle.mtn_generated.specs.Numbered.{content_of as file_content, directory_at, path_at}
use Rattle.mtn_history_laws.specs.Scalars.{content_of, value_of}
use Rattle.mtn_history_laws.specs.Scalars.Scalar.{AttrOf, ContentOf}
use Rattle.mtn_history_laws.specs.Scalars.Value.{AttrValue, ContentValue}
use Rattle.mtn_roster.specs.Tree.{IsSane, Tree, attr_of, entry_of, node_at}
use Rattle.mtn_roster.specs.declared.entry.Attr.{Attr}
use Rattle.mtn_roster.specs.declared.entry.Body.{Body}
use Rattle.mtn_roster.specs.declared.entry.Body.TheVariants.{Dir, File}
use Rattle.mtn_roster.specs.declared.entry.Entry.{Entry}
use Rattle.mtn_roster.proofs.Along.{keyed}
use Rattle.mtn_roster.proofs.Forest.{IsForest, node_there, same_some}
use Rattle.mtn_roster.proofs.Ordered.{forest_of}
use Rattle.mtn_generated_trees.specs.Formed.{AreAttrs, IsFile, IsFormed, IsPathAt, IsPlainDir, last_patch}
use Rattle.mtn_generated_trees.specs.Joining.{IsUnion}
use Rattle.mtn_generated_trees.proofs.Paths.{carried}

-- what stands at a path of one component is the directory, and what stands at one of two is a file
module _ (f : List ℕ → List ℕ) (k n : ℕ) (t : Tree) (form : IsFormed f k n t) where
  pub plain_root : (e : Entry) → node_at t [] ≡ Some e → IsPlainDir e
  plain_root e h = subst IsPlainDir (same_some form.root.1 h) form.root.2

  pub plain_at : (d : List ℕ) (e : Entry) → node_at t (d ∷ []) ≡ Some e → IsPlainDir e
  plain_at d e h = by (form.no_more (d ∷ []) e h)
    where
      by : IsPathAt k (d ∷ []) → IsPlainDir e
      by (inl z) = absurd cc
      by (inr (inl z)) = subst IsPlainDir (same_some form.directory.1 (ap (node_at t) (sym z) ∙ h)) form.directory.2
      by (inr (inr z)) = absurd (let y = z.2 in cc)

  pub file_at_path : (d x : List ℕ) (e : Entry) → node_at t (d ∷ x ∷ []) ≡ Some e → (j : ℕ) × (j < 10) × IsFile f k n j e
  file_at_path d x e h = by (form.no_more (d ∷ x ∷ []) e h)
    where
      by : IsPathAt k (d ∷ x ∷ []) → (j : ℕ) × (j < 10) × IsFile f k n j e
      by (inl z) = absurd cc
      by (inr (inl z)) = absurd cc
      by (inr (inr z)) = let file = form.files z.0 z.1 in (z.0, z.1, subst (IsFile f k n z.0) (same_some file.1 (ap (node_at t) (sym z.2) ∙ h)) file.2)

dir_body : (b : Body) → option_map ContentValue (content_of b) ≡ None → b ≡ Dir
dir_body Dir e = refl
dir_body (File c) e = absurd cc

file_body : (b : Body) (c : Id) → option_map ContentValue (content_of b) ≡ Some (ContentValue c) → b ≡ File c
file_body Dir c e = absurd cc
file_body (File d) c e = let z : d ≡ c = cc in ap File z

one_attr : (o u : Option (Option (List ℕ))) → option_map AttrValue o ≡ option_map AttrValue u → o ≡ u
one_attr None None e = refl
one_attr None (Some v) e = absurd cc
one_attr (Some v) None e = absurd cc
one_attr (Some v) (Some w) e = let z : v ≡ w = cc in ap Some z

pub later_attrs : (m n : ℕ) (attrs : List Attr) → m ≤ n → AreAttrs m attrs → AreAttrs n attrs
later_attrs m n attrs le (inl e) = inl e
later_attrs m n attrs le (inr z) = let low = z.1 in inr (z.0, omega (arith, low, le), z.2)

-- attributes of more revisions
pub more : (f : List ℕ → List ℕ) (i m n : ℕ) (t : Tree) → m ≤ n → IsFormed f i m t → IsFormed f i n t
more f i m n t le form = record {
  root = form.root;
  directory = form.directory;
  files = λ j few.
      let file = form.files j few in
      (file.0, file.1, record { content = file.2.content; attrs = later_attrs m n file.0.attrs le file.2.attrs });
  no_more = form.no_more;
}

module _ (f : List ℕ → List ℕ) (i m k n : ℕ) (left right t : Tree) (sl : IsSane left) (sr : IsSane right) (st : IsSane t)
    (of_left : IsFormed f i m left) (of_right : IsFormed f k n right) (union : IsUnion left right t) where
  ol : IsForest left
  ol = forest_of left sl

  or : IsForest right
  or = forest_of right sr

  ot : IsForest t
  ot = forest_of t st

  -- the node at a path of left, as the tree and right have it
  record Is (p : List (List ℕ)) (e : Entry) : Type 0 where
    node : Entry
    there : node_at t p ≡ Some node
    body : option_map ContentValue (content_of node.body) ≡ option_map ContentValue (content_of e.body)
    beside : Entry
    right_there : node_at right p ≡ Some beside
    attrs : node.attrs ≡ beside.attrs

  at : (p : List (List ℕ)) (e : Entry) → node_at left p ≡ Some e → Is p e
  at p e h =
      let own = node_there left ol (reverse p) e h in
      let g = carried left t ol ot union.left_slots (reverse p) e h in
      let b = carried t right ot or (λ n. sym (union.right_slots n)) (reverse p) g.0 g.1 in
      let key : (n : List ℕ) → attr_of g.0.attrs n ≡ attr_of b.0.attrs n = λ n. one_attr (attr_of g.0.attrs n) (attr_of b.0.attrs n) (
      ap (option_and_then (value_of (AttrOf e.name n))) (sym g.2) ∙ union.attrs e.name n
      ∙ ap (λ m. option_and_then (value_of (AttrOf e.name n)) (entry_of right m)) (sym g.3) ∙ ap (option_and_then (value_of (AttrOf e.name n))) b.2) in
      record {
        node = g.0;
        there = g.1;
        body = ap (option_and_then (value_of (ContentOf e.name))) (sym g.2) ∙ union.contents e.name ∙ ap (option_and_then (value_of (ContentOf e.name))) own;
        beside = b.0;
        right_there = b.1;
        attrs = same_attrs g.0.attrs b.0.attrs (keyed t st g.0 (node_there t ot (reverse p) g.0 g.1)) (keyed right sr b.0 (node_there right or (reverse p) b.0 b.1)) key;
      }

  plain : (p : List (List ℕ)) (e : Entry) (z : Is p e) → IsPlainDir e → IsPlainDir z.beside → IsPlainDir z.node
  plain p e z d b = record { body = dir_body z.node.body (z.body ∙ ap (λ x. option_map ContentValue (content_of x)) d.body); attrs = z.attrs ∙ b.attrs }

  pub form_of : IsFormed f i n t
  form_of = record {
    root =
        let z = at [] of_left.root.0 of_left.root.1 in
        (z.node, z.there, plain [] of_left.root.0 z of_left.root.2 (plain_root f k n right of_right z.beside z.right_there));
    directory =
        let z = at (directory_at i ∷ []) of_left.directory.0 of_left.directory.1 in
        (z.node, z.there, plain (directory_at i ∷ []) of_left.directory.0 z of_left.directory.2 (plain_at f k n right of_right (directory_at i) z.beside z.right_there));
    files = λ j few.
        let file = of_left.files j few in
        let z = at (path_at i j) file.0 file.1 in
        let b = file_at_path f k n right of_right (directory_at i) (codes "f" ++ decimal j) z.beside z.right_there in (
          z.node,
          z.there,
          record {
            content = file_body z.node.body (file_content f j (last_patch i j)) (z.body ∙ ap (λ x. option_map ContentValue (content_of x)) file.2.content);
            attrs = subst (AreAttrs n) (sym z.attrs) b.2.attrs;
          },
        );
    no_more = λ p e h. let b = carried t left ot ol (λ n. sym (union.left_slots n)) (reverse p) e h in of_left.no_more p b.0 b.1;
  }
