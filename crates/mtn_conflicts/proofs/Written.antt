-- Stanzas behind stanzas.
use Rattle.std.specs.Prelude.{codes, map, max}
use Rattle.std.specs.List.{flat_map}
use Rattle.std.proofs.Common.{◌≡◌, ℕ, Bool, true, false, ◌+◌, ◌<◌, List, [], ◌∷◌, ◌++◌, length, get_or, take, append_assoc, refl, sym, ◌∙◌, ap, arith}
use Rattle.std.proofs.lemmas.List.{append-nil, take_more}
use Rattle.std.proofs.lemmas.List.Concat.{flat_map-append}
use Rattle.mtn_basic_io.specs.Spelling.{LineText, line_text, longest, stanza_text, spelling}
use Rattle.mtn_roster.proofs.Stops.{map-snoc}
use Rattle.mtn_conflicts.specs.declared.item.Item.{Item}
use Rattle.mtn_conflicts.specs.declared.kind.Kind.{Kind}
use Rattle.mtn_conflicts.specs.declared.kind.Kind.TheVariants.{InvalidName, DirectoryLoop, OrphanedNode, MultipleName, DuplicateName, Attribute, Content, DroppedModified}
use Rattle.mtn_conflicts.specs.declared.lists.Conflicts.{Conflicts}
use Rattle.mtn_conflicts.specs.declared.item.Side.{Side}
use Rattle.mtn_conflicts.specs.declared.item.Side.TheVariants.{Nothing, At, Content as OfContent, Attr}
use Rattle.mtn_conflicts.specs.ConflictText.{conflict_line, item_stanza, list_stanzas, parent_lines, root_stanzas, slot_lines}
use Rattle.mtn_conflicts.specs.Printing.{behind}

abbrev after_lf : List LineText → List ℕ
after_lf s = 10 ∷ stanza_text s

-- one more item
pub items_more : {X : Type 0} (f : X → List LineText) (xs : List X) (i : ℕ) (x : X) (old now new : List ℕ) → i < length xs → x ≡ get_or xs i x → now ≡ old ++ behind (map f (take i xs)) → new ≡ now ++ 10 ∷ stanza_text (f x) →
    new ≡ old ++ behind (map f (take (i + 1) xs))
items_more f xs i x old now new lt is was more =
    more ∙ ap (λ l. l ++ after_lf (f x)) was ∙ append_assoc old (behind (map f (take i xs))) (after_lf (f x))
    ∙ ap (λ l. old ++ l) (ap (λ l. behind (map f (take i xs)) ++ l) (sym (append-nil (after_lf (f x)))) ∙ sym (flat_map-append after_lf (map f (take i xs)) (f x ∷ []))
    ∙ ap behind (sym (map-snoc f (take i xs) x) ∙ ap (map f) (sym (take_more xs i x lt ∙ ap (λ z. take i xs ++ z ∷ []) (sym is)))))

-- the stanzas of one list before those of the rest
pub rest_more : (now new : List ℕ) (first rest : List (List LineText)) → new ≡ now ++ behind first → new ++ behind rest ≡ now ++ behind (first ++ rest)
rest_more now new first rest is =
    ap (λ l. l ++ behind rest) is ∙ append_assoc now (behind first) (behind rest) ∙ ap (λ l. now ++ l) (sym (flat_map-append after_lf first rest))

-- stanzas behind one, as they are spelled
pub spelled : (s : List LineText) (ss : List (List LineText)) → stanza_text s ++ behind ss ≡ spelling (s ∷ ss)
spelled s [] = append-nil (stanza_text s)
spelled s (t ∷ more) = ap (λ l. stanza_text s ++ (10 ∷ l)) (spelled t more)

pub longest-append : (a b : List LineText) → longest (a ++ b) ≡ max (longest a) (longest b)
longest-append [] b = omega arith
longest-append (l ∷ a) b = omega (arith, longest-append a b)

-- the column of an item's stanza, by its list
pub placed_wide : (s : Side) → 8 ≡ max 8 (max 4 (longest (parent_lines s)))
placed_wide Nothing = refl
placed_wide (At slot) = refl
placed_wide (OfContent content) = refl
placed_wide (Attr value) = refl

pub slotted_wide : (s : Side) → 8 ≡ max 8 (max 4 (longest (slot_lines s)))
slotted_wide Nothing = refl
slotted_wide (At slot) = refl
slotted_wide (OfContent content) = refl
slotted_wide (Attr value) = refl

pub both_wide : (l r : List LineText) (left right : ℕ) → left ≡ longest l → right ≡ longest r → max (max left right) 8 ≡ max 8 (max 4 (longest (l ++ r)))
both_wide l r left right is_left is_right = omega (arith, longest-append l r, is_left, is_right)

pub keyed_wide : (l r : List LineText) (left right : ℕ) → left ≡ longest l → right ≡ longest r → max (max left right) 8 ≡ max 8 (max 4 (max 3 (longest (l ++ r))))
keyed_wide l r left right is_left is_right = omega (arith, longest-append l r, is_left, is_right)

pub ruleset column_steps = (placed_wide, slotted_wide)

pub ruleset both_steps = (longest-append)

-- two lines and more behind one more LF
pub item_is : (column : ℕ) (a b : LineText) (more : List LineText) (old lf first second new : List ℕ) → column ≡ longest (a ∷ b ∷ more) → lf ≡ old ++ 10 ∷ [] → first ≡ lf ++ line_text column a → second ≡ first ++ line_text column b →
    new ≡ second ++ flat_map (line_text column) more → new ≡ old ++ 10 ∷ stanza_text (a ∷ b ∷ more)
item_is column a b more old lf first second new wide is_lf is_first is_second is_new =
    let rest = flat_map (line_text column) more in
    is_new
    ∙ ap (λ l. l ++ rest) (is_second ∙ ap (λ l. l ++ line_text column b) (is_first ∙ ap (λ l. l ++ line_text column a) is_lf))
    ∙ append_assoc ((old ++ 10 ∷ []) ++ line_text column a) (line_text column b) rest
    ∙ append_assoc (old ++ 10 ∷ []) (line_text column a) (line_text column b ++ rest)
    ∙ append_assoc old (10 ∷ []) (line_text column a ++ (line_text column b ++ rest))
    ∙ ap (λ c. old ++ 10 ∷ flat_map (line_text c) (a ∷ b ∷ more)) wide

abbrev printed : Kind → List Item → List (List LineText)
printed kind items = map (item_stanza kind) items

-- the items as the list has them
pub of_items : (kind : Kind) (items given : List Item) (now new : List ℕ) → given ≡ items → new ≡ now ++ behind (printed kind given) → new ≡ now ++ behind (printed kind items)
of_items kind items given now new is more = more ∙ ap (λ l. now ++ behind (printed kind l)) is

-- the nine lists, one after the other
module _ (c : Conflicts) where
  abbrev from_dropped_modified : List (List LineText)
  from_dropped_modified = printed DroppedModified c.dropped_modified

  abbrev from_content : List (List LineText)
  from_content = printed Content c.content ++ from_dropped_modified

  abbrev from_attribute : List (List LineText)
  from_attribute = printed Attribute c.attribute ++ from_content

  abbrev from_duplicate_name : List (List LineText)
  from_duplicate_name = printed DuplicateName c.duplicate_name ++ from_attribute

  abbrev from_multiple_name : List (List LineText)
  from_multiple_name = printed MultipleName c.multiple_name ++ from_duplicate_name

  abbrev from_orphaned_node : List (List LineText)
  from_orphaned_node = printed OrphanedNode c.orphaned_node ++ from_multiple_name

  abbrev from_directory_loop : List (List LineText)
  from_directory_loop = printed DirectoryLoop c.directory_loop ++ from_orphaned_node

  abbrev from_invalid_name : List (List LineText)
  from_invalid_name = printed InvalidName c.invalid_name ++ from_directory_loop

  pub nine_lists : (o0 o1 o2 o3 o4 o5 o6 o7 o8 o9 : List ℕ) → o1 ≡ o0 ++ behind (root_stanzas c.missing_root) → o2 ≡ o1 ++ behind (printed InvalidName c.invalid_name) → o3 ≡ o2 ++ behind (printed DirectoryLoop c.directory_loop) → o4 ≡ o3 ++ behind (printed OrphanedNode c.orphaned_node) → o5 ≡ o4 ++ behind (printed MultipleName c.multiple_name) → o6 ≡ o5 ++ behind (printed DuplicateName c.duplicate_name) → o7 ≡ o6 ++ behind (printed Attribute c.attribute) → o8 ≡ o7 ++ behind (printed Content c.content) → o9 ≡ o8 ++ behind (printed DroppedModified c.dropped_modified) →
      o9 ≡ o0 ++ behind (list_stanzas c)
  nine_lists o0 o1 o2 o3 o4 o5 o6 o7 o8 o9 h0 h1 h2 h3 h4 h5 h6 h7 h8 =
      h8
      ∙ rest_more o7 o8 (printed Content c.content) from_dropped_modified h7
      ∙ rest_more o6 o7 (printed Attribute c.attribute) from_content h6
      ∙ rest_more o5 o6 (printed DuplicateName c.duplicate_name) from_attribute h5
      ∙ rest_more o4 o5 (printed MultipleName c.multiple_name) from_duplicate_name h4
      ∙ rest_more o3 o4 (printed OrphanedNode c.orphaned_node) from_multiple_name h3
      ∙ rest_more o2 o3 (printed DirectoryLoop c.directory_loop) from_orphaned_node h2
      ∙ rest_more o1 o2 (printed InvalidName c.invalid_name) from_directory_loop h1
      ∙ rest_more o0 o1 (root_stanzas c.missing_root) from_invalid_name h0

-- the stanza of a merge without a root
pub root_is : (missing : Bool) (old lf new : List ℕ) → missing ≡ true → lf ≡ old ++ 10 ∷ [] → new ≡ lf ++ line_text 8 (conflict_line (codes "missing_root")) → new ≡ old ++ behind (root_stanzas missing)
root_is false old lf new is is_lf is_new = absurd cc
root_is true old lf new is is_lf is_new =
    let line = line_text 8 (conflict_line (codes "missing_root")) in
    is_new ∙ ap (λ l. l ++ line) is_lf ∙ append_assoc old (10 ∷ []) line ∙ ap (λ l. old ++ 10 ∷ l) (sym (append-nil line) ∙ sym (append-nil (line ++ [])))

-- what a side has, in one line or in two
pub one_line : (column : ℕ) (a : LineText) (lines : List LineText) (old new : List ℕ) → lines ≡ a ∷ [] → new ≡ old ++ line_text column a → new ≡ old ++ flat_map (line_text column) lines
one_line column a lines old new is more = more ∙ ap (λ l. old ++ l) (sym (append-nil (line_text column a))) ∙ ap (λ l. old ++ flat_map (line_text column) l) (sym is)

pub two_lines : (column : ℕ) (a b : LineText) (lines : List LineText) (old mid new : List ℕ) → lines ≡ a ∷ b ∷ [] → mid ≡ old ++ line_text column a → new ≡ mid ++ line_text column b → new ≡ old ++ flat_map (line_text column) lines
two_lines column a b lines old mid new is first more =
    more ∙ ap (λ l. l ++ line_text column b) first ∙ append_assoc old (line_text column a) (line_text column b) ∙ ap (λ l. old ++ (line_text column a ++ l)) (sym (append-nil (line_text column b)))
    ∙ ap (λ l. old ++ flat_map (line_text column) l) (sym is)
