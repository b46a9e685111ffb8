-- `Moving::half` meets its contract.
-- Assumes nothing.
use Rattle.std.proofs.Common.{Some, None}
use Rattle.ground_rules.specs.Buffers.{buffers}
use Rattle.transfer_rules.proofs.PartLaws.{half-fetches, half-stores, fetch-due, store-due}
use Rattle.transfer.proofs.HalfLaws.{due-is}
use Rattle.transfer_rules.specs.Parts.{FirstFetch, SecondFetch, FirstStore, SecondStore, fetch_part, store_part}
use Rattle.transfer.proofs.moving.Moving.half.Goals as goal

pub second_fetch-requires : goal.second_fetch-requires
second_fetch-requires c = (c.requires.0, half-fetches _ c.requires.1 c.if-fetches-2.true)

pub first_store-requires : goal.first_store-requires
first_store-requires c = (c.requires.0, (half-stores _ c.requires.1 c.if-fetches.false).1)

pub second_store-requires : goal.second_store-requires
second_store-requires c = (c.requires.0, (half-stores _ c.requires.1 c.if-fetches-2.false).1)

pub returns-in-None : goal.returns-in-None
unfolding fetch_part
returns-in-None c =
    let a = c.args in
    let x = a.self.channel in
    let both = due-is x _ (buffers a.sys.now a.io.now) _ FirstFetch (fetch-due x None (half-fetches x c.requires.1 c.if-fetches.true) c.in-None.is) (c.first_fetch.ensures.left, c.first_fetch.ensures.count) in
    record { left = both.0; count = both.1 }

pub returns-in-Some : goal.returns-in-Some
unfolding fetch_part
returns-in-Some c =
    let a = c.args in
    let x = a.self.channel in
    let both = due-is x _ (buffers a.sys.now a.io.now) _ (SecondFetch _) (fetch-due x (Some _) (half-fetches x c.requires.1 c.if-fetches-2.true) c.in-Some.is) (c.second_fetch.ensures.left, c.second_fetch.ensures.count) in
    record { left = both.0; count = both.1 }

pub returns-in-None-2 : goal.returns-in-None-2
unfolding store_part
returns-in-None-2 c =
    let a = c.args in
    let x = a.self.channel in
    let h = half-stores x c.requires.1 c.if-fetches.false in
    let both = due-is x _ (buffers a.sys.now a.io.now) _ FirstStore (store-due x None h.0 h.1 c.in-None.is) (c.first_store.ensures.left, c.first_store.ensures.count) in
    record { left = both.0; count = both.1 }

pub returns-in-Some-2 : goal.returns-in-Some-2
unfolding store_part
returns-in-Some-2 c =
    let a = c.args in
    let x = a.self.channel in
    let h = half-stores x c.requires.1 c.if-fetches-2.false in
    let both = due-is x _ (buffers a.sys.now a.io.now) _ (SecondStore _) (store-due x (Some _) h.0 h.1 c.in-Some-2.is) (c.second_store.ensures.left, c.second_store.ensures.count) in
    record { left = both.0; count = both.1 }
