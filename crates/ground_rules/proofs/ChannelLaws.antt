-- The laws of a channel taken out and put back: it is the one that was put, the other is untouched, and so is what both share.
-- Assumes nothing.
use Prim.Native.Nat.{ℕ, ◌<◌}
use borrow.Author.Tests.{ltb-true, lt-ltb}
use lib.Dec.{ltb}
use mathlib.Core.Bool.{Bool, true, false, not, ◌&&◌}
use mathlib.Core.Path.{◌≡◌, refl}
use Rattle.ground_rules.specs.declared.Pointer.{Pointer}
use Rattle.ground_rules.proofs.ChoiceLaws.{both_left, both_right}
use Rattle.ground_rules.specs.Choice.{pick}
use Rattle.ground_rules.specs.States.{idle_channel, fresh_state, fresh_of, channel_of, with_channel, with_last, sound_channel, sound, is_second, channel_number}
use Rattle.ground_rules.specs.Updates.{with_control}
use Rattle.ground_rules.specs.declared.Made.{Made}
use Rattle.ground_rules.specs.declared.Channel.{Channel}
use Rattle.ground_rules.specs.declared.Mode.{Mode}
use Rattle.ground_rules.specs.declared.State.{State}

-- what was put under a name is found under it
pub put_same : (s : State) (b : Bool) (c : Channel) → channel_of (with_channel s b c) b ≡ c
unfolding channel_of with_channel
put_same s true c = refl
put_same s false c = refl

-- the other channel is untouched
pub put_other : (s : State) (b : Bool) (c : Channel) → channel_of (with_channel s b c) (not b) ≡ channel_of s (not b)
unfolding channel_of with_channel
put_other s true c = refl
put_other s false c = refl

-- a channel put back as it was taken out changes nothing
pub put_back : (s : State) (b : Bool) → with_channel s b (channel_of s b) ≡ s
unfolding channel_of with_channel
put_back s true = refl
put_back s false = refl

-- CP, the channel that stepped last and what the board set up are shared, and stay
pub put-cp : (s : State) (b : Bool) (c : Channel) → (with_channel s b c).cp ≡ s.cp
unfolding with_channel
put-cp s b c = refl

pub put_last : (s : State) (b : Bool) (c : Channel) → (with_channel s b c).last ≡ s.last
unfolding with_channel
put_last s b c = refl

pub put-board : (s : State) (b : Bool) (c : Channel) → (with_channel s b c).board ≡ s.board
unfolding with_channel
put-board s b c = refl

-- noting which channel stepped changes no channel
pub last-channel : (s : State) (b d : Bool) → channel_of (with_last s b) d ≡ channel_of s d
unfolding channel_of with_last
last-channel s b d = refl

-- nor what the board set up
pub last-board : (s : State) (b : Bool) → (with_last s b).board ≡ s.board
unfolding with_last
last-board s b = refl

-- a state is sound where both channels and CP are
pub sound-channel-of : (s : State) (b : Bool) → sound s ≡ true → sound_channel (channel_of s b) ≡ true
unfolding sound channel_of
sound-channel-of s true h = both_right (sound_channel s.first) (sound_channel s.second) (both_left (sound_channel s.first && sound_channel s.second) (ltb s.cp 1048576) h)
sound-channel-of s false h = both_left (sound_channel s.first) (sound_channel s.second) (both_left (sound_channel s.first && sound_channel s.second) (ltb s.cp 1048576) h)

-- TP and PP of a sound channel are of 20 bits
pub sound-tp : (c : Channel) → sound_channel c ≡ true → c.tp.address < 1048576
unfolding sound_channel
sound-tp c h =
    let others = ltb c.ga.address 1048576 && ltb c.gb.address 1048576 && ltb c.gc.address 1048576 in
    let tp = ltb c.tp.address 1048576 in
    ltb-true c.tp.address 1048576 (both_right others tp (both_left (others && tp) (ltb c.pp 1048576) h))

pub sound-pp : (c : Channel) → sound_channel c ≡ true → c.pp < 1048576
unfolding sound_channel
sound-pp c h =
    let others = ltb c.ga.address 1048576 && ltb c.gb.address 1048576 && ltb c.gc.address 1048576 && ltb c.tp.address 1048576 in
    ltb-true c.pp 1048576 (both_right others (ltb c.pp 1048576) h)

-- a sound channel with TP and PP of 20 bits is sound
pub controlled-sound : (c : Channel) (tp : Pointer) (pp psw : ℕ) (mode : Mode) (armed : Bool) → sound_channel c ≡ true → tp.address < 1048576 → pp < 1048576
    → sound_channel (with_control c tp pp psw mode armed) ≡ true
unfolding sound_channel with_control
controlled-sound c tp pp psw mode armed h h₁ h₂ =
    let others = ltb c.ga.address 1048576 && ltb c.gb.address 1048576 && ltb c.gc.address 1048576 in
    rw (both_left others (ltb c.tp.address 1048576) (both_left (others && ltb c.tp.address 1048576) (ltb c.pp 1048576) h), lt-ltb _ _ h₁, lt-ltb _ _ h₂)

-- a sound state with a sound channel put back is sound
pub put-sound : (s : State) (b : Bool) (c : Channel) → sound s ≡ true → sound_channel c ≡ true → sound (with_channel s b c) ≡ true
unfolding sound with_channel channel_of
put-sound s b c h k = rw (both_right (sound_channel s.first && sound_channel s.second) (ltb s.cp 1048576) h) (go b)
  where
    go : (b : Bool) → sound_channel (pick b s.first c) && sound_channel (pick b c s.second) && true ≡ true
    go true = rw (sound-channel-of s false h, k)
    go false = rw (k, sound-channel-of s true h)

-- a fresh state is sound
pub fresh-sound : (cp : ℕ) → sound (fresh_of cp).state ≡ true
unfolding fresh_of fresh_state idle_channel sound sound_channel
fresh-sound cp = go (ltb cp 1048576) refl
  where
    go : (b : Bool) → ltb cp 1048576 ≡ b → sound (pick {A = Made} b (record { number = 0; state = fresh_state cp }) (record { number = 10; state = fresh_state 0 })).state ≡ true
    go true e = e
    go false e = refl

-- and counts as powered up
pub fresh-powered : (cp : ℕ) → (fresh_of cp).state.board.powered ≡ true
unfolding fresh_of fresh_state
fresh-powered cp = go (ltb cp 1048576)
  where
    go : (b : Bool) → (pick {A = Made} b (record { number = 0; state = fresh_state cp }) (record { number = 10; state = fresh_state 0 })).state.board.powered ≡ true
    go true = refl
    go false = refl

-- the names and the numbers of the channels agree
pub named : (b : Bool) → is_second (channel_number b) ≡ b
unfolding is_second channel_number
named true = refl
named false = refl
