-- The texts of paths along a walk.
use Rattle.std.specs.Prelude.{◌&&◌, not, if◌then◌else◌, true, false, map, option_map, slice_get, option_copied, filter_map, IsSome}
use Rattle.std.specs.List.{cons_option}
use Rattle.std.proofs.lemmas.Option.{slice_get-get_or}
use Rattle.std.proofs.lemmas.List.Elements.{filter_map-append}
use Rattle.mtn_roster.specs.declared.entry.Attr.{Attr}
use Rattle.std.proofs.Common.{◌≡◌, ℕ, zero, suc, ◌+◌, ◌<◌, ◌≤◌, List, [], ◌∷◌, ◌++◌, length, get_or, take, Option, Some, None, refl, sym, ◌∙◌, ap, subst, arith, append_assoc, Bor}
use Rattle.std.proofs.lemmas.List.{take_more, take_all}
use Rattle.mtn_base.specs.Paths.{path_text}
use Rattle.mtn_base.specs.declared.name.NodeName.{NodeName}
use Rattle.mtn_basic_io.specs.Spelling.{LineText, stanza_text, spelling}
use Rattle.mtn_basic_io.proofs.Printed.{spelling-push}
use Rattle.mtn_roster.specs.declared.entry.Entry.{Entry}
use Rattle.mtn_roster.specs.declared.entry.Slot.{Slot}
use Rattle.mtn_roster.specs.declared.entry.Slot.TheVariants.{Root, Below}
use Rattle.mtn_roster.specs.declared.walk.Stop.{Stop}
use Rattle.mtn_roster.specs.Tree.{Tree, IsSane, entry_of, path_of, path_up, is_dir, is_root_slot}
use Rattle.mtn_roster.specs.Walk.{by_path, IsAbove, AreStops}
use Rattle.mtn_roster.proofs.Along.{held, named_by, take_at, as_long, stop_has}
use Rattle.mtn_roster.proofs.Forest.{same_some}
use Rattle.mtn_roster.proofs.Walking.{child_path}
use Rattle.mtn_roster.proofs.Leading.{get_map, get_within}
use Rattle.mtn_roster.proofs.Stops.{map-snoc}
use Rattle.mtn_manifest.specs.Manifest.{attr_line, kept_at, text_at, IsMet}

-- what stands before a component below a path
abbrev prefix_of : List (List ℕ) → List ℕ
prefix_of [] = []
prefix_of (c ∷ cs) = c ++ (47 ∷ prefix_of cs)

joined_more : (p : List (List ℕ)) (a : List ℕ) → path_text (p ++ a ∷ []) ≡ prefix_of p ++ a
joined_more [] a = refl
joined_more (c ∷ []) a = sym (append_assoc c (47 ∷ []) a)
joined_more (c ∷ d ∷ p) a = ap (λ l. c ++ (47 ∷ l)) (joined_more (d ∷ p) a) ∙ sym (append_assoc c (47 ∷ prefix_of (d ∷ p)) a)

slashed : (c : List ℕ) (cs : List (List ℕ)) → prefix_of (c ∷ cs) ≡ path_text (c ∷ cs) ++ 47 ∷ []
slashed c [] = refl
slashed c (d ∷ cs) = ap (λ l. c ++ (47 ∷ l)) (slashed d cs) ∙ sym (append_assoc c (47 ∷ path_text (d ∷ cs)) (47 ∷ []))

slashed_end : (ys : List (List ℕ)) (a : List ℕ) → prefix_of (ys ++ a ∷ []) ≡ path_text (ys ++ a ∷ []) ++ 47 ∷ []
slashed_end [] a = slashed a []
slashed_end (y ∷ ys) a = slashed y (ys ++ a ∷ [])

ends : (steps t : Tree) (p : NodeName) (n : List ℕ) → (ys : List (List ℕ)) × (path_up steps t (Below p n) ≡ ys ++ n ∷ [])
ends [] t p n = ([], refl)
ends (s ∷ steps) t p n = (_, refl)

-- what is kept of a directory
kept_is : (t : Tree) (d : Entry) (s : Slot) → d.slot ≡ s → is_dir d ≡ true → kept_at (path_text (path_of t d)) d ≡ prefix_of (path_of t d)
kept_is t d Root is dir =
    let no : (is_dir d && not (is_root_slot d.slot)) ≡ false = ap (λ s. is_dir d && not (is_root_slot s)) is ∙ ap (λ b. b && false) dir in
    ap (λ b. if b then path_text (path_of t d) ++ 47 ∷ [] else []) no ∙ sym (ap (λ s. prefix_of (path_up t t s)) is)
kept_is t d (Below p n) is dir =
    let yes : (is_dir d && not (is_root_slot d.slot)) ≡ true = ap (λ s. is_dir d && not (is_root_slot s)) is ∙ ap (λ b. b && true) dir in
    let path : path_of t d ≡ path_up t t (Below p n) = ap (path_up t t) is in
    let e = ends t t p n in
    ap (λ b. if b then path_text (path_of t d) ++ 47 ∷ [] else []) yes
    ∙ ap (λ l. path_text l ++ 47 ∷ []) (path ∙ e.1) ∙ sym (slashed_end e.0 n) ∙ sym (ap prefix_of (path ∙ e.1))

module _ (t : Tree) (sane : IsSane t) where
  abbrev pub kept_in : Entry → List ℕ
  kept_in e = kept_at (path_text (path_of t e)) e

  get_from : (xs : List (List ℕ)) (k : ℕ) (x : List ℕ) → slice_get xs k ≡ Some x → get_or xs k [] ≡ x
  get_from [] k x h = absurd cc
  get_from (y ∷ xs) zero x h = cc
  get_from (y ∷ xs) (suc k) x h = get_from xs k x h

  pub record Places (kept : List (List ℕ)) (e : Entry) (s : Slot) (above : ℕ) : Type 0 where
    pub met : IsMet kept s above
    pub text : text_at kept s above ≡ path_text (path_of t e)

  -- the path of a node is made from its parent's
  pub places : (kept : List (List ℕ)) (i above : ℕ) (e : Entry) (s : Slot) → slice_get (by_path t) i ≡ Some e → e.slot ≡ s → IsAbove (by_path t) s i above
      → kept ≡ map kept_in (take i (by_path t)) → Places kept e s above
  places kept i above e Root at slot known is =
      let none : path_of t e ≡ [] = ap (path_up t t) slot in
      record { met = tt; text = sym (ap path_text none) }
  places kept i above e (Below p n) at slot known is =
      let d = named_by (slice_get (by_path t) above) p known.1 in
      let own : entry_of t d.0.name ≡ Some d.0 = held t sane above d.0 d.1 in
      let path : path_of t e ≡ path_of t d.0 ++ n ∷ [] = child_path t sane d.0 e n own (held t sane i e at) (slot ∙ ap (λ m. Below m n) (sym d.2)) in
      let up = sane.sane.parents e.name p e n (held t sane i e at) slot in
      let same : up.0 ≡ d.0 = same_some up.1 (ap (entry_of t) (sym d.2) ∙ own) in
      let dir : is_dir d.0 ≡ true = subst (λ (x : Entry). is_dir x ≡ true) same up.2 in
      let there : slice_get kept above ≡ Some (kept_in d.0) =
      ap (λ l. slice_get l above) is ∙ get_map kept_in (take i (by_path t)) above ∙ ap (option_map kept_in) (take_at (by_path t) i above d.0 known.0 d.1) in
      let front : get_or kept above [] ≡ prefix_of (path_of t d.0) = get_from kept above (kept_in d.0) there ∙ kept_is t d.0 d.0.slot refl dir in
      record {
        met = get_within kept above (kept_in d.0) there;
        text = ap (λ f. f ++ n) front ∙ sym (joined_more (path_of t d.0) n) ∙ ap path_text (sym path);
      }

-- one more node
pub met_more : {Y : Type 0} (t : Tree) (f : Entry → Y) (i : ℕ) (e : Entry) (ys ys' : List Y) (y : Y) → slice_get (by_path t) i ≡ Some e → y ≡ f e → ys ≡ map f (take i (by_path t)) → ys' ≡ ys ++ y ∷ [] → ys' ≡ map f (take (i + 1) (by_path t))
met_more t f i e ys ys' y at is was more =
    let es = by_path t in
    let low = get_within es i e at in
    let here : get_or es i e ≡ e = cc_some (get_or es i e) e (sym (slice_get-get_or es i e low) ∙ at) in
    more ∙ ap (λ l. l ++ y ∷ []) was ∙ ap (λ z. map f (take i es) ++ z ∷ []) (is ∙ ap f (sym here))
    ∙ sym (map-snoc f (take i es) (get_or es i e)) ∙ ap (map f) (sym (take_more es i e low))
  where
    cc_some : (a b : Entry) → Some a ≡ Some b → a ≡ b
    cc_some a b h = cc

-- one more stanza
pub written_more : (t : Tree) (f : Entry → List LineText) (i : ℕ) (e : Entry) (first stanza : List LineText) (old now new : List ℕ) → slice_get (by_path t) i ≡ Some e → stanza ≡ f e
    → now ≡ old ++ spelling (first ∷ map f (take i (by_path t))) → new ≡ now ++ 10 ∷ stanza_text stanza → new ≡ old ++ spelling (first ∷ map f (take (i + 1) (by_path t)))
written_more t f i e first stanza old now new at is was more =
    let es : List (List LineText) = map f (take i (by_path t)) in
    more ∙ ap (λ l. l ++ 10 ∷ stanza_text stanza) was ∙ append_assoc old (spelling (first ∷ es)) (10 ∷ stanza_text stanza)
    ∙ ap (λ l. old ++ l) (sym (spelling-push (first ∷ es) stanza) ∙ ap (λ l. spelling (first ∷ l)) (met_more t f i e es (es ++ stanza ∷ []) stanza at is refl refl))

pub copied_some : (o : Option (Bor Entry)) (e : Entry) → option_copied o ≡ Some e → IsSome o
copied_some None e h = absurd cc
copied_some (Some b) e h = refl

pub copied_is : (o : Option (Bor Entry)) (b : Bor Entry) (e : Entry) → o ≡ Some b → option_copied o ≡ Some e → b.now ≡ e
copied_is o b e h g = let q : Some b.now ≡ Some e = ap option_copied (sym h) ∙ g in cc

pub attrs_more : (first now now' : List LineText) (xs : List Attr) (i : ℕ) (a : Attr) → i < length xs → a ≡ get_or xs i a → now ≡ first ++ filter_map attr_line (take i xs) → now' ≡ now ++ cons_option (attr_line a) [] → now' ≡ first ++ filter_map attr_line (take (i + 1) xs)
attrs_more first now now' xs i a low at was more =
    more ∙ ap (λ l. l ++ cons_option (attr_line a) []) was ∙ append_assoc first (filter_map attr_line (take i xs)) (cons_option (attr_line a) [])
    ∙ ap (λ l. first ++ l) (sym (filter_map-append attr_line (take i xs) (a ∷ [])) ∙ ap (λ z. filter_map attr_line (take i xs ++ z ∷ [])) at ∙ ap (filter_map attr_line) (sym (take_more xs i a low)))

-- what the loop knows of the node at a stop
pub record AtStop (t : Tree) (sane : IsSane t) (kept : List (List ℕ)) (i above : ℕ) (e : Entry) : Type 0 where
  pub node : slice_get (by_path t) i ≡ Some e
  pub places : Places t sane kept e e.slot above

pub at_stop : (t : Tree) (sane : IsSane t) (items stops : List Stop) → AreStops t items → stops ≡ items → (i : ℕ) (d : Stop) → i < length stops → (o : Option (Bor Entry)) (b : Bor Entry) → o ≡ Some b
    → option_copied o ≡ slice_get t (get_or stops i d).place → (held prefixes : List (List ℕ)) → prefixes ≡ held → held ≡ map (kept_in t sane) (take i (by_path t)) → AtStop t sane prefixes i (get_or stops i d).above b.now
at_stop t sane items stops are same i d low o b got is_held held prefixes pre was =
    let has = stop_has t stops (subst (AreStops t) (sym same) are) i d low in
    let e : Entry = has.0 in
    let is : e ≡ b.now = sym (copied_is o b e got (is_held ∙ has.1)) in
    let p = places t sane prefixes i (get_or stops i d).above e e.slot has.2 refl has.3 (pre ∙ was) in
    record {
      node = has.2 ∙ ap Some is;
      places = subst (λ (x : Entry). Places t sane prefixes x x.slot (get_or stops i d).above) is p;
    }

-- all nodes were met
pub all_met : {Y : Type 0} (t : Tree) (f : Entry → Y) (stops : List Stop) → AreStops t stops → (i : ℕ) → length stops ≤ i → map f (take i (by_path t)) ≡ map f (by_path t)
all_met t f stops are i far =
    ap (map f) (take_all i (by_path t) (omega (arith, far, as_long t stops are)))
