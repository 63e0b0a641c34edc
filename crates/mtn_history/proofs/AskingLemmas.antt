-- Call after call that only asks.
use Rattle.std.proofs.Common.{◌≤◌, ◌+◌, ℕ, Option, refl, ◌∙◌, arith}
use Rattle.mtn_model.specs.Table.{Contents}
use Rattle.mtn_ports.proofs.KeptLemmas.{stays_itself, stays_trans}
use Rattle.mtn_history.specs.Asking.{OnlyAsks}
use Rattle.mtn_history.specs.Drafts.{DraftValue}

module _ {K : Type 0} (contents : K → Option Contents) (leaves : K → Contents → Type 0) (faults asked : K → ℕ) where
  pub asks_none : (n : ℕ) (d : DraftValue K) → OnlyAsks contents leaves faults asked n d d
  asks_none n d = record { same_reference = refl; stays = stays_itself contents leaves faults d.keeper.now; pending = refl; reads = omega arith }

  pub asks_on : (m n : ℕ) (a b c : DraftValue K) → OnlyAsks contents leaves faults asked m a b → OnlyAsks contents leaves faults asked n b c → OnlyAsks contents leaves faults asked (m + n) a c
  asks_on m n a b c x y = record {
    same_reference = y.same_reference ∙ x.same_reference;
    stays = stays_trans contents leaves faults a.keeper.now b.keeper.now c.keeper.now x.stays y.stays;
    pending = y.pending ∙ x.pending;
    reads = omega (arith, x.reads, y.reads);
  }

  pub asks_within : (m n : ℕ) (a b : DraftValue K) → m ≤ n → OnlyAsks contents leaves faults asked m a b → OnlyAsks contents leaves faults asked n a b
  asks_within m n a b le x = record { same_reference = x.same_reference; stays = x.stays; pending = x.pending; reads = omega (arith, x.reads, le) }

  -- the same where fewer were asked for
  pub asks_fewer : (m n : ℕ) (a b : DraftValue K) → OnlyAsks contents leaves faults asked m a b → asked b.keeper.now ≤ asked a.keeper.now + n → OnlyAsks contents leaves faults asked n a b
  asks_fewer m n a b x le = record { same_reference = x.same_reference; stays = x.stays; pending = x.pending; reads = le }
