-- The members and heads of a branch, over a set of certificates and the ids of revisions. Branches and heads are those of
-- Monotone's manual; that a certificate counts whatever its key and signature is our choice.
use Rattle.std.specs.Prelude.{◌≡◌, ◌↔◌, ◌&&◌, ℕ, Bool, List, codes}
use Rattle.mtn_base.specs.Names.{same_bytes}
use Rattle.mtn_base.specs.declared.id.Id.{Id}
use Rattle.mtn_certs.specs.Certificates.{Certificate}

-- the certificate is one of a branch
pub record NamesBranch (c : Certificate) (branch : List ℕ) : Type 0 where
  pub name : c.name ≡ codes "branch"
  pub value : c.value ≡ branch

-- the certificate makes a revision a member of the branch
pub record NamesMember (branch : List ℕ) (c : Certificate) (r : Id) : Type 0 where
  pub names : NamesBranch c branch
  pub revision : c.revision ≡ r

-- some certificate of the set makes the revision a member
abbrev pub IsMember : (Certificate → Type 0) → List ℕ → Id → Type 0
IsMember holds branch r = (c : Certificate) × holds c × NamesMember branch c r

-- the branch has a member
abbrev pub IsBranch : (Certificate → Type 0) → List ℕ → Type 0
IsBranch holds branch = (c : Certificate) × holds c × NamesBranch c branch

-- a member that no member has as a proper ancestor; `above x r` says that x is a proper ancestor of r
abbrev pub IsHead : (Id → Id → Type 0) → (Id → Type 0) → Id → Type 0
IsHead above member r = member r × ((m : Id) → member m → ¬ above r m)

-- the tests
abbrev pub is_of_branch : Certificate → Bool
is_of_branch c = same_bytes c.name (codes "branch")

abbrev pub is_for : List ℕ → Certificate → Bool
is_for branch c = is_of_branch c && same_bytes c.value branch
