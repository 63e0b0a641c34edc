-- Members and heads by the ids of a graph.
use Rattle.std.specs.Prelude.{All, Contains, codes, map}
use Rattle.std.specs.Cmp.{IsTotalOrder, first_so, second_so}
use Rattle.std.specs.List.Sorted.{IsStrictlySortedBy}
use Rattle.std.specs.declared.cmp.Ordering.{Ordering}
use Rattle.std.proofs.Common.{◌≡◌, ◌↔◌, ◌⊎◌, ◌<◌, ◌≤◌, ◌-◌, ℕ, zero, suc, List, [], ◌∷◌, inl, inr, ◌+◌, ◌++◌, true, false, cond, get_or, take, length, refl, sym, ap, ◌∙◌, subst, arith}
use Rattle.std.proofs.Common.{Bor, Option, Some, None}
use Rattle.std.proofs.lemmas.List.{map-append}
use Rattle.std.proofs.lemmas.List.Elements.{Contains-get_or}
use Rattle.std.proofs.Math.Decide.{ℕ_discrete}
use Rattle.mtn_ancestry.specs.Ancestors.{IsAncestor, IsProperAncestor}
use Rattle.mtn_ancestry.specs.Log.{id_at, parents_of, IsLog}
use Rattle.mtn_ancestry.specs.Sets.{IsAscendingListOf}
use Rattle.mtn_ancestry.specs.declared.pos.LogEntry.{LogEntry}
use Rattle.mtn_ancestry.proofs.Ancestry.{IsAncestor-trans, IsAncestor-le, tell_ancestor, ancestor_at}
use Rattle.mtn_ancestry.proofs.Placing.{id_within}
use Rattle.mtn_base.specs.Ids.{by_id, in_id_order}
use Rattle.mtn_base.specs.declared.id.Id.{Id}
use Rattle.mtn_base.proofs.IdOrder.{contains_nil, contains_head, contains_later, contains_cases, by_id_total, in_order_ascends, in_order_same, one_list as in_one_list, one_way_of}
use Rattle.mtn_base.specs.Lists.{ordered}
use Rattle.mtn_base.specs.Names.{bytes_cmp, same_bytes}
use Rattle.mtn_base.proofs.Orders.{bytes_total, exact_bytes}
use Rattle.mtn_base.proofs.Tests.{both_true, same_bytes-is, same_bytes-self}
use Rattle.mtn_certs.specs.Certificates.{Certificate}
use Rattle.mtn_certs.proofs.Ordered.{ordered_ascends, ordered_same}
use Rattle.mtn_base.specs.Lists.{IsListOf}
use Rattle.mtn_branches.specs.Branches.{IsHead, IsMember, NamesBranch, NamesMember, is_for, is_of_branch}
use Rattle.mtn_branches.specs.Graphs.{IsAbove, IsHeldBy, IsIdAt, IsProperlyAbove, StandsAt}
use Rattle.mtn_branches.specs.Images.{IsImage}
use Rattle.mtn_branches.proofs.Images.{image_pass, image_push}

-- ids that were put in order
pub put_list : (P : Id → Type 0) (ids once : List Id) → once ≡ in_id_order ids → ((x : Id) → Contains ids x ↔ P x) → IsListOf by_id P once
put_list P ids once put exact = record {
  ascending = subst (IsStrictlySortedBy by_id) (sym put) (in_order_ascends ids);
  exact = λ x. (
    λ c. (exact x).0 ((in_order_same ids x).0 (subst (λ l. Contains l x) put c)),
    λ p. subst (λ l. Contains l x) (sym put) ((in_order_same ids x).1 ((exact x).1 p)),
  );
}

-- a list of what has P is one of what has Q
pub list_alike : {X : Type 0} (order : X → X → Ordering) (P Q : X → Type 0) (items : List X) → ((x : X) → P x ↔ Q x) → IsListOf order P items → IsListOf order Q items
list_alike order P Q items same list = record {
  ascending = list.ascending;
  exact = λ x. (λ c. (same x).0 ((list.exact x).0 c), λ q. (list.exact x).1 ((same x).1 q));
}

-- there is one list of what has P
pub one_list_by : {X : Type 0} (order : X → X → Ordering) → IsTotalOrder order → (P : X → Type 0) (a b : List X) → IsListOf order P a → IsListOf order P b → a ≡ b
one_list_by order total P a b l m =
    in_one_list order (one_way_of total) a b l.ascending m.ascending (λ x c. (m.exact x).1 ((l.exact x).0 c)) (λ x c. (l.exact x).1 ((m.exact x).0 c))

-- there is one list of the ids with P
pub one_list : (P : Id → Type 0) (a b : List Id) → IsListOf by_id P a → IsListOf by_id P b → a ≡ b
one_list = one_list_by by_id by_id_total

same_id_at : (log : List LogEntry) (a : ℕ) (x y : Id) → StandsAt log x a → StandsAt log y a → x ≡ y
same_id_at log a x y p q = let e : Some x ≡ Some y = sym p ∙ q in cc

module _ (log : List LogEntry) (is : IsLog log) where
  -- proper ancestors by positions and by ids
  pub properly_at : (x r : Id) (a b : ℕ) → StandsAt log x a → StandsAt log r b → IsProperAncestor (parents_of log) a b → IsProperlyAbove log x r
  properly_at x r a b p q above = (λ e. above.0 (is.once r a b (subst (λ z. StandsAt log z a) e p) q), (a, b, p, q, above.1))

  pub at_properly : (x r : Id) (a b : ℕ) → StandsAt log x a → StandsAt log r b → IsProperlyAbove log x r → IsProperAncestor (parents_of log) a b
  at_properly x r a b p q above =
      let t = above.1 in
      let ea : t.0 ≡ a = is.once x t.0 a t.2 p in
      let eb : t.1 ≡ b = is.once r t.1 b t.3 q in (
        λ e. above.0 (same_id_at log b x r (subst (StandsAt log x) e p) q),
        subst (IsAncestor (parents_of log) a) eb (subst (λ z. IsAncestor (parents_of log) z t.1) ea t.4),
      )

  -- the members that the graph keeps when it erases ancestors are the heads
  pub heads_are : (member : Id → Type 0) (ids : List Id) (places found : List ℕ) (heads : List Id) →
      ((r : Id) → Contains ids r ↔ member r) → ((r : Id) → member r → IsHeldBy log r) →
      IsImage (StandsAt log) ids places →
      IsAscendingListOf (λ x. Contains places x × ((r : ℕ) → Contains places r → ¬ IsProperAncestor (parents_of log) x r)) found →
      IsImage (IsIdAt log) found heads →
      (r : Id) → Contains heads r ↔ IsHead (IsProperlyAbove log) member r
  heads_are member ids places found heads are held stood kept named r = (
    λ c.
        let t = (named.exact r).0 c in
        let k = (kept.exact t.0).0 t.1 in
        let s = (stood.exact t.0).0 k.0 in
        let same : s.0 ≡ r = same_id_at log t.0 s.0 r s.2 t.2 in (
          subst member same ((are s.0).0 s.1),
          λ m is_member above.
              let h = held m is_member in
              k.1 h.0 ((stood.exact h.0).1 (m, (are m).1 is_member, h.1)) (at_properly r m t.0 h.0 t.2 h.1 above),
        ),
    λ t.
        let h = held r t.0 in (named.exact r).1 (
          h.0,
          (kept.exact h.0).1 (
            (stood.exact h.0).1 (r, (are r).1 t.0, h.1),
            λ b c above. let s = (stood.exact b).0 c in t.1 s.0 ((are s.0).0 s.1) (properly_at r s.0 h.0 b h.1 s.2 above),
          ),
          h.1,
        ),
  )

  -- a member of the list that has this one as a proper ancestor, or none
  above_one : (member : Id → Type 0) → ((r : Id) → member r → IsHeldBy log r) → (ids : List Id) → ((r : Id) → Contains ids r → member r) → (r : Id) (a : ℕ) → StandsAt log r a →
      ((m : Id) × (b : ℕ) × member m × StandsAt log m b × (a < b) × IsAncestor (parents_of log) a b) ⊎ ((m : Id) → Contains ids m → ¬ IsProperlyAbove log r m)
  above_one member held [] of r a at = inr (λ m c p. contains_nil c)
  above_one member held (m ∷ ids) of r a at =
      let h = held m (of m (contains_head m ids)) in
      let rest = above_one member held ids (λ x c. of x (contains_later m ids c)) r a at in
      elim (tell_ancestor is.earlier h.0 a) [
        | yes k ↦ elim (ℕ_discrete a h.0) [
          | yes e ↦ later m ids r a at rest (λ p. (at_properly r m a h.0 at h.1 p).0 e)
          | no n ↦ let le = IsAncestor-le is.earlier k in inl (m, h.0, of m (contains_head m ids), h.1, omega (arith, le, n), k)
        ]
        | no n ↦ later m ids r a at rest (λ p. n (at_properly r m a h.0 at h.1 p).1)
      ]
    where
      later : (m : Id) (ids : List Id) (r : Id) (a : ℕ) → StandsAt log r a →
          ((m : Id) × (b : ℕ) × member m × StandsAt log m b × (a < b) × IsAncestor (parents_of log) a b) ⊎ ((m : Id) → Contains ids m → ¬ IsProperlyAbove log r m) →
          ¬ IsProperlyAbove log r m →
          ((m : Id) × (b : ℕ) × member m × StandsAt log m b × (a < b) × IsAncestor (parents_of log) a b) ⊎ ((n : Id) → Contains (m ∷ ids) n → ¬ IsProperlyAbove log r n)
      later m ids r a at (inl t) not = inl t
      later m ids r a at (inr none) not = inr (λ n c p. elim (contains_cases m ids n c) [ inl e ↦ not (subst (IsProperlyAbove log r) (sym e) p) | inr d ↦ none n d p ])

  -- a member is a head, or an ancestor of one
  pub some_head : (member : Id → Type 0) → ((r : Id) → member r → IsHeldBy log r) → (ids : List Id) → ((r : Id) → Contains ids r ↔ member r) → (r : Id) → member r →
      (m : Id) × IsHead (IsProperlyAbove log) member m × IsAbove log r m
  some_head member held ids are r of = let h = held r of in go (length log) r h.0 of h.1 (omega arith)
    where
      go : (fuel : ℕ) (r : Id) (a : ℕ) → member r → StandsAt log r a → length log - a ≤ fuel → (m : Id) × IsHead (IsProperlyAbove log) member m × IsAbove log r m
      go zero r a of at low = absurd (omega (arith, id_within log a r at, low))
      go (suc fuel) r a of at low = elim (above_one member held ids (λ x c. (are x).0 c) r a at) [
        | inl t ↦
            let further = go fuel t.0 t.1 t.2 t.3 (omega (arith, id_within log t.1 t.0 t.3, t.4, low)) in
            let up = further.2 in
            let same : up.0 ≡ t.1 = is.once t.0 up.0 t.1 up.2 t.3 in
            (further.0, further.1, (a, up.1, at, up.3, IsAncestor-trans (subst (λ z. IsAncestor (parents_of log) z up.1) same up.4) t.5))
        | inr none ↦ (r, (of, λ m is_member. none m ((are m).1 is_member)), (a, a, at, at, ancestor_at refl))
      ]

-- sets of certificates that are alike
pub same_members : (holds also : Certificate → Type 0) (branch : List ℕ) → ((c : Certificate) → holds c ↔ also c) → (r : Id) → IsMember holds branch r ↔ IsMember also branch r
same_members holds also branch same r = (λ t. (t.0, (same t.0).0 t.1, t.2), λ t. (t.0, (same t.0).1 t.1, t.2))

-- heads by relations and members that are alike
pub alike_heads : (above over : Id → Id → Type 0) (member also : Id → Type 0) → ((x r : Id) → above x r ↔ over x r) → ((r : Id) → member r ↔ also r) →
    (r : Id) → IsHead above member r ↔ IsHead over also r
alike_heads above over member also lies same r = (
  λ t. ((same r).0 t.0, λ m of up. t.1 m ((same m).1 of) ((lies r m).1 up)),
  λ t. ((same r).1 t.0, λ m of up. t.1 m ((same m).0 of) ((lies r m).0 up)),
)

pub same_heads : (above : Id → Id → Type 0) (member also : Id → Type 0) → ((r : Id) → member r ↔ also r) → (r : Id) → IsHead above member r ↔ IsHead above also r
same_heads above member also same = alike_heads above above member also (λ x r. (λ up. up, λ up. up)) same

-- the members that the certificates of a list make
pub members_of : List ℕ → List Certificate → List Id
members_of branch [] = []
members_of branch (c ∷ certs) = cond (is_for branch c) (c.revision ∷ members_of branch certs) (members_of branch certs)

-- the test tells what names a member
pub tells_member : (branch : List ℕ) (c : Certificate) → is_for branch c ≡ true → NamesMember branch c c.revision
tells_member branch c h = record {
  names = record {
    name = same_bytes-is c.name (codes "branch") (first_so _ _ h);
    value = same_bytes-is c.value branch (second_so (is_of_branch c) _ h);
  };
  revision = refl;
}

pub told_member : (branch : List ℕ) (c : Certificate) (r : Id) → NamesMember branch c r → is_for branch c ≡ true
told_member branch c r n =
    both_true _ _ (ap (λ l. same_bytes l (codes "branch")) n.names.name ∙ same_bytes-self (codes "branch")) (ap (λ l. same_bytes l branch) n.names.value ∙ same_bytes-self branch)

pub members_are : (branch : List ℕ) (certs : List Certificate) (r : Id) → Contains (members_of branch certs) r ↔ IsMember (Contains certs) branch r
unfolding members_of
members_are branch [] r = (λ c. absurd (contains_nil c), λ t. absurd (contains_nil t.1))
members_are branch (c ∷ certs) r =
    elim (is_for branch c) as (λ b. is_for branch c ≡ b → Contains (cond b (c.revision ∷ members_of branch certs) (members_of branch certs)) r ↔ IsMember (Contains (c ∷ certs)) branch r) [
      | true ↦ λ e. (
        λ d. elim (contains_cases c.revision (members_of branch certs) r d) [
          | inl same ↦ let n = tells_member branch c e in (c, contains_head c certs, record { names = n.names; revision = same })
          | inr f ↦ later c certs r ((members_are branch certs r).0 f)
        ],
        λ t. elim (contains_cases c certs t.0 t.1) [
          | inl same ↦ subst (Contains (c.revision ∷ members_of branch certs)) (ap (λ (d : Certificate). d.revision) same ∙ t.2.revision) (contains_head c.revision (members_of branch certs))
          | inr f ↦ contains_later c.revision (members_of branch certs) ((members_are branch certs r).1 (t.0, f, t.2))
        ],
      )
      | false ↦ λ e. (
        λ d. later c certs r ((members_are branch certs r).0 d),
        λ t. elim (contains_cases c certs t.0 t.1) [
          | inl same ↦ absurd (let h : is_for branch c ≡ true = ap (is_for branch) same ∙ told_member branch t.0 r t.2 in cc)
          | inr f ↦ (members_are branch certs r).1 (t.0, f, t.2)
        ],
      )
    ] refl
  where
    later : (c : Certificate) (certs : List Certificate) (r : Id) → IsMember (Contains certs) branch r → IsMember (Contains (c ∷ certs)) branch r
    later c certs r t = (t.0, contains_later c certs t.1, t.2)

-- values in order
pub branches_list : (holds : List ℕ → Type 0) (given values : List (List ℕ)) → ((v : List ℕ) → Contains given v ↔ holds v) → values ≡ ordered bytes_cmp (λ (v : List ℕ). v) given → IsListOf bytes_cmp holds values
branches_list holds given values exact is = record {
  ascending = subst (IsStrictlySortedBy bytes_cmp) (sym is) (ordered_ascends bytes_cmp bytes_total exact_bytes given);
  exact = λ v. (
    λ c. (exact v).0 ((ordered_same bytes_cmp bytes_total exact_bytes given v).0 (subst (λ l. Contains l v) is c)),
    λ h. subst (λ l. Contains l v) (sym is) ((ordered_same bytes_cmp bytes_total exact_bytes given v).1 ((exact v).1 h)),
  );
}

-- one more certificate of a list, which names a member or none
pub named_more : (branch : List ℕ) (certs : List Certificate) (i : ℕ) (c : Certificate) (ids : List Id) (id : Id) → i < length certs → c ≡ get_or certs i c →
    IsImage (NamesMember branch) (take i certs) ids → is_for branch c ≡ true → id ≡ c.revision → IsImage (NamesMember branch) (take (i + 1) certs) (ids ++ id ∷ [])
named_more branch certs i c ids id lt at all h same =
    let n = tells_member branch c h in
    image_push (NamesMember branch) certs i c ids id lt at all (record { names = n.names; revision = sym same }) (λ z m. sym m.revision ∙ sym same)

pub named_pass : (branch : List ℕ) (certs : List Certificate) (i : ℕ) (c : Certificate) (ids : List Id) → i < length certs → c ≡ get_or certs i c →
    IsImage (NamesMember branch) (take i certs) ids → is_for branch c ≡ false → IsImage (NamesMember branch) (take (i + 1) certs) ids
named_pass branch certs i c ids lt at all h =
    image_pass (NamesMember branch) certs i c ids lt at all (λ z m. let t = told_member branch c z m in absurd (let e : true ≡ false = sym t ∙ h in cc))

-- one more position, and what stands there
pub id_more : (log : List LogEntry) (places : List ℕ) (i a : ℕ) (ids : List Id) (id : Id) → i < length places → a ≡ get_or places i a →
    IsImage (IsIdAt log) (take i places) ids → id_at log a ≡ Some id → IsImage (IsIdAt log) (take (i + 1) places) (ids ++ id ∷ [])
id_more log places i a ids id lt at all is = image_push (IsIdAt log) places i a ids id lt at all is (λ z e. same_id_at log a z id e is)

pub id_pass : (log : List LogEntry) (places : List ℕ) (i a : ℕ) (ids : List Id) → i < length places → a ≡ get_or places i a →
    IsImage (IsIdAt log) (take i places) ids → id_at log a ≡ None → IsImage (IsIdAt log) (take (i + 1) places) ids
id_pass log places i a ids lt at all none = image_pass (IsIdAt log) places i a ids lt at all (λ z e. absurd (let t : None ≡ Some z = sym none ∙ e in cc))

-- one more revision, and where it stands
pub place_more : (log : List LogEntry) (ids : List Id) (i : ℕ) (id : Id) (places : List ℕ) (a : ℕ) (found : Option ℕ) → i < length ids → id ≡ get_or ids i id →
    IsImage (StandsAt log) (take i ids) places → found ≡ Some a → id_at log a ≡ Some id → ((b : ℕ) → id_at log b ≡ Some id → found ≡ Some b) → IsImage (StandsAt log) (take (i + 1) ids) (places ++ a ∷ [])
place_more log ids i id places a found lt at all some is every =
    image_push (StandsAt log) ids i id places a lt at all is (λ z e. let t : Some z ≡ Some a = sym (every z e) ∙ some in cc)

pub place_pass : (log : List LogEntry) (ids : List Id) (i : ℕ) (id : Id) (places : List ℕ) (found : Option ℕ) → i < length ids → id ≡ get_or ids i id →
    IsImage (StandsAt log) (take i ids) places → found ≡ None → ((b : ℕ) → id_at log b ≡ Some id → found ≡ Some b) → IsImage (StandsAt log) (take (i + 1) ids) places
place_pass log ids i id places found lt at all none every =
    image_pass (StandsAt log) ids i id places lt at all (λ z e. absurd (let t : Some z ≡ None = sym (every z e) ∙ none in cc))

-- where revisions stand is in the graph
pub within : (log : List LogEntry) (ids : List Id) (places : List ℕ) → IsImage (StandsAt log) ids places → All (λ r. r < length log) places
within log ids places image k d lt = let t = (image.exact (get_or places k d)).0 (Contains-get_or places k d lt) in id_within log (get_or places k d) t.0 t.2

-- one more certificate, which names a branch or none
pub branch_more : (certs : List Certificate) (i : ℕ) (c : Certificate) (naming : List (Bor Certificate)) (b : Bor Certificate) → i < length certs → c ≡ get_or certs i c →
    IsImage NamesBranch (take i certs) (map (λ (n : Bor Certificate). n.now.value) naming) → b.now.value ≡ c.value → is_of_branch c ≡ true →
    IsImage NamesBranch (take (i + 1) certs) (map (λ (n : Bor Certificate). n.now.value) (naming ++ b ∷ []))
branch_more certs i c naming b lt at all value h =
    subst (IsImage NamesBranch (take (i + 1) certs)) (sym (map-append (λ (n : Bor Certificate). n.now.value) naming (b ∷ [])))
    (image_push NamesBranch certs i c (map (λ (n : Bor Certificate). n.now.value) naming) b.now.value lt at all
    (record { name = same_bytes-is c.name (codes "branch") h; value = sym value }) (λ z n. sym n.value ∙ sym value))

pub branch_pass : (certs : List Certificate) (i : ℕ) (c : Certificate) (naming : List (Bor Certificate)) → i < length certs → c ≡ get_or certs i c →
    IsImage NamesBranch (take i certs) (map (λ (n : Bor Certificate). n.now.value) naming) → is_of_branch c ≡ false →
    IsImage NamesBranch (take (i + 1) certs) (map (λ (n : Bor Certificate). n.now.value) naming)
branch_pass certs i c naming lt at all h =
    image_pass NamesBranch certs i c (map (λ (n : Bor Certificate). n.now.value) naming) lt at all
    (λ z n. absurd (let e : true ≡ false = sym (ap (λ l. same_bytes l (codes "branch")) n.name ∙ same_bytes-self (codes "branch")) ∙ h in cc))
