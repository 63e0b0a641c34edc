-- What differs between two lists by ascending numbers, from their first entries on.
use Rattle.std.specs.Prelude.{◌⊎◌, map, is_some, Contains}
use Rattle.std.specs.List.{list_all}
use Rattle.std.specs.FinMap.{nat_cmp-IsAntisymmetric}
use Rattle.std.specs.declared.cmp.Ordering.TheVariants.{Less, Equal, Greater}
use Rattle.std.specs.Ordering.{is_lt, nat_cmp, ordering_reverse}
use Rattle.std.specs.Cmp.{nat_cmp_total, tied_itself}
use Rattle.std.proofs.Common.{◌≡◌, ℕ, suc, ◌+◌, ◌<◌, ◌≤◌, true, false, List, [], ◌∷◌, ◌++◌, ◌-◌, length, take, drop, get_or, Some, None, refl, sym, ◌∙◌, ap, subst, append_assoc, arith, inl, inr}
use Rattle.std.proofs.Math.ListN.{drop_of_length-le}
use Rattle.std.proofs.Math.Seq.{drop-cons}
use Rattle.std.proofs.lemmas.List.{drop-drop, length-drop}
use Rattle.mtn_marking.proofs.Zips.{take_past}
use Rattle.mtn_records.specs.declared.entry.NumberedEntry.{NumberedEntry}
use Rattle.mtn_base.specs.Lists.{rises}
use Rattle.mtn_base.proofs.Finding.{later}
use Rattle.mtn_base.proofs.Members.{head, split_cons}
use Rattle.mtn_base.proofs.Sorting.{low_at}
use Rattle.mtn_base.proofs.Tests.{both_true}
use Rattle.mtn_roster_deltas.specs.Chain.{Entries, ascend, entry_at, is_there, number_of}
use Rattle.mtn_roster_deltas.specs.Difference.{IsDifference}
use Rattle.mtn_roster_deltas.specs.Parts.{Differs, Continues}
use Rattle.mtn_roster_deltas.proofs.Ascending.{cut_of, place_by}
use Rattle.mtn_roster_deltas.proofs.Differing.{entry_was, entry_is}
use Rattle.mtn_roster_deltas.proofs.Merging.{tail_up}

module _ {X : Type 0} where
  here : (x : X) (xs : List X) → Contains (x ∷ xs) x
  here x xs = place_by (x ∷ xs) x (head x xs)

  there : (x : X) (xs : List X) (y : X) → Contains xs y → Contains (x ∷ xs) y
  there x xs y c = place_by (x ∷ xs) y (later x xs y (cut_of xs y c))

  of_cons : (x : X) (xs : List X) (y : X) → Contains (x ∷ xs) y → (x ≡ y) ⊎ Contains xs y
  of_cons x xs y c = elim (split_cons x xs y (cut_of (x ∷ xs) y c)) [ inl e ↦ inl e | inr s ↦ inr (place_by xs y s) ]

  at_same : (x : X) (xs : List X) (y : X) → x ≡ y → Contains (x ∷ xs) y
  at_same x xs y e = subst (Contains (x ∷ xs)) e (here x xs)

  of_none : (y : X) → Contains [] y → ⊥
  of_none y c = omega (arith, c.1)

not_less : (a b : ℕ) → a ≡ b → nat_cmp a b ≡ Less → ⊥
not_less a b e h = let z : nat_cmp a b ≡ Equal = ap (nat_cmp a) (sym e) ∙ tied_itself nat_cmp_total a in cc

low_in : (e : NumberedEntry) (es : Entries) (f : NumberedEntry) → ascend (e ∷ es) ≡ true → Contains es f → nat_cmp e.number f.number ≡ Less
low_in e es f up c = low_at nat_cmp number_of nat_cmp_total e es f up (cut_of es f c)

-- a number below the first is below all
below_in : (k : ℕ) (n : NumberedEntry) (ns : Entries) (f : NumberedEntry) → ascend (n ∷ ns) ≡ true → nat_cmp k n.number ≡ Less → Contains (n ∷ ns) f → nat_cmp k f.number ≡ Less
below_in k n ns f up h c = elim (of_cons n ns f c) [
  | inl e ↦ ap (nat_cmp k) (sym (ap number_of e)) ∙ h
  | inr t ↦ nat_cmp_total.trans k n.number f.number h (low_in n ns f up t)
]

first_rises : {X : Type 0} (key : X → ℕ) (x : X) (xs : List X) → ((y : X) → Contains xs y → nat_cmp (key x) (key y) ≡ Less) → rises nat_cmp (map key xs) ≡ true → rises nat_cmp (map key (x ∷ xs)) ≡ true
first_rises {X} key x xs low up = both_true _ _ (all xs low) up
  where
    all : (ys : List X) → ((y : X) → Contains ys y → nat_cmp (key x) (key y) ≡ Less) → list_all (λ l. is_lt (nat_cmp (key x) l)) (map key ys) ≡ true
    all [] h = refl
    all (y ∷ ys) h = both_true _ _ (ap is_lt (h y (here y ys))) (all ys (λ z c. h z (there y ys z c)))

numbers_rise : (k : ℕ) (ks : List ℕ) → ((m : ℕ) → Contains ks m → nat_cmp k m ≡ Less) → rises nat_cmp ks ≡ true → rises nat_cmp (k ∷ ks) ≡ true
numbers_rise k ks low up = both_true _ _ (all ks low) up
  where
    all : (ms : List ℕ) → ((m : ℕ) → Contains ms m → nat_cmp k m ≡ Less) → list_all (λ l. is_lt (nat_cmp k l)) ms ≡ true
    all [] h = refl
    all (m ∷ ms) h = both_true _ _ (ap is_lt (h m (here m ms))) (all ms (λ z c. h z (there m ms z c)))

module _ (e : NumberedEntry) (es : Entries) (n : NumberedEntry) (ns : Entries) (gone : List ℕ) (changed : Entries) (up : ascend (e ∷ es) ≡ true) (rise : ascend (n ∷ ns) ≡ true) where
  -- the old entry comes first: it is gone
  old_gone : nat_cmp e.number n.number ≡ Less → Differs es (n ∷ ns) gone changed → Differs (e ∷ es) (n ∷ ns) (e.number ∷ gone) changed
  old_gone h d =
      let apart = λ (f : NumberedEntry) (c : Contains (n ∷ ns) f). below_in e.number n ns f rise h c in
      record {
        gone_up = numbers_rise e.number gone (λ k c. let o = d.gone_old k c in ap (nat_cmp e.number) (sym o.2) ∙ low_in e es o.0 up o.1) d.gone_up;
        gone_old = λ k c. elim (of_cons e.number gone k c) [
          | inl q ↦ (e, here e es, q)
          | inr t ↦ let o = d.gone_old k t in (o.0, there e es o.0 o.1, o.2)
        ];
        gone_not = λ k c f t is. elim (of_cons e.number gone k c) [
          | inl q ↦ not_less e.number f.number (q ∙ sym is) (apart f t)
          | inr s ↦ d.gone_not k s f t is
        ];
        gone_all = λ f c none. elim (of_cons e es f c) [
          | inl q ↦ at_same e.number gone f.number (ap number_of q)
          | inr t ↦ there e.number gone f.number (d.gone_all f t none)
        ];
        changed_up = d.changed_up;
        changed_new = d.changed_new;
        changed_not = λ f c t. elim (of_cons e es f t) [
          | inl q ↦ not_less e.number f.number (ap number_of q) (apart f (d.changed_new f c))
          | inr s ↦ d.changed_not f c s
        ];
        others = λ f c. elim (d.others f c) [ inl t ↦ inl t | inr t ↦ inr (there e es f t) ];
      }

  -- the new entry comes first: it is added
  new_added : nat_cmp n.number e.number ≡ Less → Differs (e ∷ es) ns gone changed → Differs (e ∷ es) (n ∷ ns) gone (n ∷ changed)
  new_added h d =
      let apart = λ (f : NumberedEntry) (c : Contains (e ∷ es) f). below_in n.number e es f up h c in
      record {
        gone_up = d.gone_up;
        gone_old = d.gone_old;
        gone_not = λ k c f t is. elim (of_cons n ns f t) [
          | inl q ↦ let o = d.gone_old k c in not_less n.number o.0.number (ap number_of q ∙ is ∙ sym o.2) (apart o.0 o.1)
          | inr s ↦ d.gone_not k c f s is
        ];
        gone_all = λ f c none. d.gone_all f c (λ g t. none g (there n ns g t));
        changed_up = first_rises number_of n changed (λ f c. low_in n ns f rise (d.changed_new f c)) d.changed_up;
        changed_new = λ f c. elim (of_cons n changed f c) [ inl q ↦ at_same n ns f q | inr t ↦ there n ns f (d.changed_new f t) ];
        changed_not = λ f c t. elim (of_cons n changed f c) [
          | inl q ↦ not_less n.number f.number (ap number_of q) (apart f t)
          | inr s ↦ d.changed_not f s t
        ];
        others = λ f c. elim (of_cons n ns f c) [
          | inl q ↦ inl (at_same n changed f q)
          | inr t ↦ elim (d.others f t) [ inl s ↦ inl (there n changed f s) | inr s ↦ inr s ]
        ];
      }

  module _ (same : e.number ≡ n.number) where
    above : (f : NumberedEntry) → Contains ns f → nat_cmp e.number f.number ≡ Less
    above f c = ap (λ k. nat_cmp k f.number) same ∙ low_in n ns f rise c

    gone_other : Differs es ns gone changed → (k : ℕ) → Contains gone k → (f : NumberedEntry) → Contains (n ∷ ns) f → f.number ≡ k → ⊥
    gone_other d k c f t is = elim (of_cons n ns f t) [
      | inl q ↦ let o = d.gone_old k c in not_less e.number o.0.number (same ∙ ap number_of q ∙ is ∙ sym o.2) (low_in e es o.0 up o.1)
      | inr s ↦ d.gone_not k c f s is
    ]

    gone_each : Differs es ns gone changed → (f : NumberedEntry) → Contains (e ∷ es) f → ((h : NumberedEntry) → Contains (n ∷ ns) h → h.number ≡ f.number → ⊥) → Contains gone f.number
    gone_each d f c none = elim (of_cons e es f c) [
      | inl q ↦ absurd (none n (here n ns) (sym same ∙ ap number_of q))
      | inr t ↦ d.gone_all f t (λ g s. none g (there n ns g s))
    ]

    -- both are one
    both_stay : e ≡ n → Differs es ns gone changed → Differs (e ∷ es) (n ∷ ns) gone changed
    both_stay one d = record {
      gone_up = d.gone_up;
      gone_old = λ k c. let o = d.gone_old k c in (o.0, there e es o.0 o.1, o.2);
      gone_not = gone_other d;
      gone_all = gone_each d;
      changed_up = d.changed_up;
      changed_new = λ f c. there n ns f (d.changed_new f c);
      changed_not = λ f c t. elim (of_cons e es f t) [
        | inl q ↦ not_less e.number f.number (ap number_of q) (above f (d.changed_new f c))
        | inr s ↦ d.changed_not f c s
      ];
      others = λ f c. elim (of_cons n ns f c) [
        | inl q ↦ inr (at_same e es f (one ∙ q))
        | inr t ↦ elim (d.others f t) [ inl s ↦ inl s | inr s ↦ inr (there e es f s) ]
      ];
    }

    -- the new one stands in place of the old
    new_changed : (e ≡ n → ⊥) → Differs es ns gone changed → Differs (e ∷ es) (n ∷ ns) gone (n ∷ changed)
    new_changed other d = record {
      gone_up = d.gone_up;
      gone_old = λ k c. let o = d.gone_old k c in (o.0, there e es o.0 o.1, o.2);
      gone_not = gone_other d;
      gone_all = gone_each d;
      changed_up = first_rises number_of n changed (λ f c. low_in n ns f rise (d.changed_new f c)) d.changed_up;
      changed_new = λ f c. elim (of_cons n changed f c) [ inl q ↦ at_same n ns f q | inr t ↦ there n ns f (d.changed_new f t) ];
      changed_not = λ f c t. elim (of_cons n changed f c) [
        | inl q ↦ elim (of_cons e es f t) [
          | inl r ↦ other (r ∙ sym q)
          | inr s ↦ not_less e.number f.number (same ∙ ap number_of q) (low_in e es f up s)
        ]
        | inr s ↦ elim (of_cons e es f t) [
          | inl r ↦ not_less e.number f.number (ap number_of r) (above f (d.changed_new f s))
          | inr u ↦ d.changed_not f s u
        ]
      ];
      others = λ f c. elim (of_cons n ns f c) [
        | inl q ↦ inl (at_same n changed f q)
        | inr t ↦ elim (d.others f t) [ inl s ↦ inl (there n changed f s) | inr s ↦ inr (there e es f s) ]
      ];
    }

-- what is left where one list is at its end
all_gone : (es : Entries) → ascend es ≡ true → Differs es [] (map number_of es) []
all_gone es up = record {
  gone_up = up;
  gone_old = old es;
  gone_not = λ k c f t is. of_none f t;
  gone_all = λ f c none. numbered es f c;
  changed_up = refl;
  changed_new = λ f c. absurd (of_none f c);
  changed_not = λ f c t. of_none f c;
  others = λ f c. absurd (of_none f c);
}
  where
    old : (es : Entries) (k : ℕ) → Contains (map number_of es) k → (f : NumberedEntry) × Contains es f × (f.number ≡ k)
    old [] k c = absurd (of_none k c)
    old (e ∷ es) k c = elim (of_cons e.number (map number_of es) k c) [
      | inl q ↦ (e, here e es, q)
      | inr t ↦ let o = old es k t in (o.0, there e es o.0 o.1, o.2)
    ]

    numbered : (es : Entries) (f : NumberedEntry) → Contains es f → Contains (map number_of es) f.number
    numbered [] f c = absurd (of_none f c)
    numbered (e ∷ es) f c = elim (of_cons e es f c) [
      | inl q ↦ at_same e.number (map number_of es) f.number (ap number_of q)
      | inr t ↦ there e.number (map number_of es) f.number (numbered es f t)
    ]

all_added : (ns : Entries) → ascend ns ≡ true → Differs [] ns [] ns
all_added ns rise = record {
  gone_up = refl;
  gone_old = λ k c. absurd (of_none k c);
  gone_not = λ k c f t is. of_none k c;
  gone_all = λ f c none. absurd (of_none f c);
  changed_up = rise;
  changed_new = λ f c. c;
  changed_not = λ f c t. of_none f t;
  others = λ f c. inl c;
}

-- what differs is the difference
pub difference_is : (base new : Entries) (gone : List ℕ) (changed : Entries) → ascend base ≡ true → ascend new ≡ true → Differs base new gone changed → IsDifference base new gone changed
difference_is base new gone changed up rise d = record {
  gone_ascend = d.gone_up;
  gone_are = λ k. (
    λ c. (let o = d.gone_old k c in ap is_some (entry_is base up k o.0 o.1 o.2), absent k c),
    λ h. came k h.0 h.1,
  );
  changed_ascend = d.changed_up;
  changed_are = λ f c. (d.changed_new f c, d.changed_not f c);
  others_stay = d.others;
}
  where
    absent : (k : ℕ) → Contains gone k → is_there new k ≡ false
    absent k c = elim (entry_at new k) as (λ o. entry_at new k ≡ o → is_some o ≡ false) [
      | None ↦ λ h. refl
      | Some f ↦ λ h. absurd (let t = entry_was new k f h in d.gone_not k c f t.0 t.1)
    ] refl

    came : (k : ℕ) → is_there base k ≡ true → is_there new k ≡ false → Contains gone k
    came k h g = elim (entry_at base k) as (λ o. entry_at base k ≡ o → is_some o ≡ true → Contains gone k) [
      | None ↦ λ q t. absurd cc
      | Some f ↦ λ q t.
          let w = entry_was base k f q in
          subst (Contains gone) w.1 (d.gone_all f w.0 (λ z c is.
          let found = entry_is new rise k z c (is ∙ w.1) in let some = ap is_some found in cc))
    ] refl h

-- one step of the walk
module _ (base after : Entries) (gone : List ℕ) (changed : Entries) (e : NumberedEntry) (es : Entries) (n : NumberedEntry) (ns : Entries) (c : Continues base after gone changed (e ∷ es) (n ∷ ns)) where
  regrouped : {X : Type 0} (xs ys : List X) (x : X) (zs : List X) → ys ≡ xs ++ x ∷ [] → xs ++ x ∷ zs ≡ ys ++ zs
  regrouped xs ys x zs is = sym (append_assoc xs (x ∷ []) zs) ∙ ap (λ l. l ++ zs) (sym is)

  pub steps_gone : (gone' : List ℕ) → gone' ≡ gone ++ e.number ∷ [] → nat_cmp e.number n.number ≡ Less → Continues base after gone' changed es (n ∷ ns)
  steps_gone gone' is h = record {
    olds = tail_up e es c.olds;
    news = c.news;
    goes = λ g d f. subst (λ l. Differs base after l (changed ++ d)) (regrouped gone gone' e.number g is) (c.goes (e.number ∷ g) d (old_gone e es n ns g d c.olds c.news h f));
  }

  pub steps_added : (changed' : Entries) → changed' ≡ changed ++ n ∷ [] → nat_cmp e.number n.number ≡ Greater → Continues base after gone changed' (e ∷ es) ns
  steps_added changed' is h = record {
    olds = c.olds;
    news = tail_up n ns c.news;
    goes = λ g d f. subst (λ l. Differs base after (gone ++ g) l) (regrouped changed changed' n d is) (c.goes g (n ∷ d) (new_added e es n ns g d c.olds c.news (nat_cmp_total.antisymm n.number e.number ∙ ap ordering_reverse h) f));
  }

  pub steps_kept : e ≡ n → Continues base after gone changed es ns
  steps_kept one = record {
    olds = tail_up e es c.olds;
    news = tail_up n ns c.news;
    goes = λ g d f. c.goes g d (both_stay e es n ns g d c.olds c.news (ap number_of one) one f);
  }

  pub steps_changed : (changed' : Entries) → changed' ≡ changed ++ n ∷ [] → nat_cmp e.number n.number ≡ Equal → (e ≡ n → ⊥) → Continues base after gone changed' es ns
  steps_changed changed' is h other = record {
    olds = tail_up e es c.olds;
    news = tail_up n ns c.news;
    goes = λ g d f. subst (λ l. Differs base after (gone ++ g) l) (regrouped changed changed' n d is)
        (c.goes g (n ∷ d) (new_changed e es n ns g d c.olds c.news (nat_cmp-IsAntisymmetric e.number n.number h) other f));
  }

pub begins : (base after : Entries) → ascend base ≡ true → ascend after ≡ true → Continues base after [] [] base after
begins base after up rise = record { olds = up; news = rise; goes = λ g d f. f }

-- the end of the walk
pub ends : (base after : Entries) (gone : List ℕ) (changed es ns : Entries) → Continues base after gone changed es ns → (es ≡ []) ⊎ (ns ≡ []) → Differs base after (gone ++ map number_of es) (changed ++ ns)
ends base after gone changed es ns c over =
    c.goes (map number_of es) ns (elim over [
      | inl none ↦ subst (λ l. Differs l ns (map number_of l) ns) (sym none) (all_added ns c.news)
      | inr none ↦ subst (λ l. Differs es l (map number_of es) l) (sym none) (all_gone es c.olds)
    ])

-- one step of the walk, by places
pub walks_on : (base new : Entries) (gone gone' : List ℕ) (changed changed' : Entries) (i j a b : ℕ) (e n : NumberedEntry) → i < length base → j < length new → e ≡ get_or base i e → n ≡ get_or new j n →
    ((after_base after_new es ns : Entries) → Continues after_base after_new gone changed (e ∷ es) (n ∷ ns) → Continues after_base after_new gone' changed' (drop a (e ∷ es)) (drop b (n ∷ ns))) →
    Continues base new gone changed (drop i base) (drop j new) → Continues base new gone' changed' (drop (i + a) base) (drop (j + b) new)
walks_on base new gone gone' changed changed' i j a b e n li lj at_i at_j step c =
    let old : drop i base ≡ e ∷ drop (suc i) base = drop-cons base i e li ∙ ap (λ x. x ∷ drop (suc i) base) (sym at_i) in
    let fresh : drop j new ≡ n ∷ drop (suc j) new = drop-cons new j n lj ∙ ap (λ x. x ∷ drop (suc j) new) (sym at_j) in
    let s = step base new (drop (suc i) base) (drop (suc j) new)
    (subst (λ l. Continues base new gone changed l (n ∷ drop (suc j) new)) old (subst (λ l. Continues base new gone changed (drop i base) l) fresh c)) in
    subst (λ l. Continues base new gone' changed' l (drop (j + b) new)) (ap (drop a) (sym old) ∙ drop-drop a i base)
    (subst (λ l. Continues base new gone' changed' (drop a (e ∷ drop (suc i) base)) l) (ap (drop b) (sym fresh) ∙ drop-drop b j new) s)

-- the end of the walk, by places
pub walked : (base new : Entries) (gone gone' : List ℕ) (changed changed' : Entries) (i j : ℕ) → (length base ≤ i) ⊎ (length new ≤ j) → Continues base new gone changed (drop i base) (drop j new) →
    gone' ≡ gone ++ map number_of (drop i base) → changed' ≡ changed ++ drop j new → ascend base ≡ true → ascend new ≡ true → IsDifference base new gone' changed'
walked base new gone gone' changed changed' i j over c is are up rise =
    let d = ends base new gone changed (drop i base) (drop j new) c (elim over [ inl h ↦ inl (drop_of_length-le base h) | inr h ↦ inr (drop_of_length-le new h) ]) in
    difference_is base new gone' changed' up rise
    (subst (λ l. Differs base new l changed') (sym is) (subst (λ l. Differs base new (gone ++ map number_of (drop i base)) l) (sym are) d))

pub tail_is : {X : Type 0} (xs : List X) (i : ℕ) → take (length xs - i) (drop i xs) ≡ drop i xs
tail_is xs i = take_past (drop i xs) (length xs - i) (omega (arith, length-drop i xs))
