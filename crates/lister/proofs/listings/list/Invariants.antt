use Prim.Native.Nat.{◌-◌, ◌≤◌}
use lib.ListN.{length}
use Rattle.listing_rules.specs.Listings.{list_limit}
use Rattle.lister.proofs.ListLaws.{Going}
use Rattle.lister.proofs.listings.list.Given as goal

abbrev pub invariant-loop-at : goal.invariant-loop-at
invariant-loop-at l = Going l.part l.first l.initial.text l.text l.at l.n × (length l.part ≤ list_limit)

abbrev pub decreases-loop-at : goal.decreases-loop-at
decreases-loop-at l = length l.part - l.at
