-- Commands whose answer does not depend on the order of the log.
use Rattle.std.specs.Prelude.{◌≡◌, ℕ, List, Bool, true, false, Option, None, Some}
use Rattle.mtn_certs.specs.Certificates.{IsIdBytes}
use Rattle.mtn_model.specs.Outcome.{Outcome}
use Rattle.mtn_step.specs.declared.call.Call.{Call}
use Rattle.mtn_step.specs.declared.call.Call.TheVariants.{Ask, Cert, Key, Commit, MergeHeads, Packets}
use Rattle.mtn_model.specs.State.{State}
use Rattle.mtn_answers.specs.declared.query.Query.TheVariants.{Toposort, AncestryDifference}
use Rattle.mtn_renaming.specs.Order.{IsSameUpToOrder}

-- the commands that answer in the order of the log
abbrev pub in_log_order : Call → Bool
in_log_order (Ask (Toposort of)) = true
in_log_order (Ask (AncestryDifference r without)) = true
in_log_order (Packets id have) = true
in_log_order _ = false

abbrev pub asks_log_order : Option Call → Bool
asks_log_order None = false
asks_log_order (Some call) = in_log_order call

-- each text has an id
abbrev pub MakesIds : (List ℕ → List ℕ) → Type 0
MakesIds f = (text : List ℕ) → IsIdBytes (f text)

-- the commands that say something of a revision that they make
abbrev pub certifies : Call → Bool
certifies (Commit said) = true
certifies (MergeHeads branch author date key resolves) = true
certifies _ = false

abbrev pub asks_ids : Option Call → Bool
asks_ids None = false
asks_ids (Some call) = certifies call

-- what a command names in certificates and key names are ids, as those that words spell
abbrev pub NamesIds : Call → Type 0
NamesIds (Cert revision name key value signature) = IsIdBytes revision.0 × IsIdBytes key.0
NamesIds (Key id name) = IsIdBytes id.0
NamesIds (Commit said) = IsIdBytes said.key.0
NamesIds (MergeHeads branch author date key resolves) = IsIdBytes key.0
NamesIds _ = Unit {0}

-- so what it keeps are ids
abbrev pub KeepsIds : (List ℕ → List ℕ) → Call → Type 0
KeepsIds f call = NamesIds call × (certifies call ≡ true → MakesIds f)

-- the same output and status, and states that are again one but for the order of their logs
pub record IsSameOutcome (f : List ℕ → List ℕ) (o p : Outcome) : Type 0 where
  pub output : p.output ≡ o.output
  pub status : p.status ≡ o.status
  pub states : IsSameUpToOrder f o.state p.state

-- what is done to a state is done to each other one that is the same up to order
abbrev pub IsOrderFree : (List ℕ → List ℕ) → (State → Outcome → Type 0) → Type 0
IsOrderFree f Does = (s t : State) (o : Outcome) → IsSameUpToOrder f s t → Does s o → (p : Outcome) × Does t p × IsSameOutcome f o p
