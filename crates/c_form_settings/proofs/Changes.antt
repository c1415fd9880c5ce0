-- How the states of locals change.
use Rattle.std.proofs.Common.{◌≡◌, ◌<◌, ◌≤◌, ◌-◌, refl, inl, inr, arith}
use Rattle.std.specs.Prelude.{◌⊎◌, false, Some, None}
use Rattle.c_form_settings.specs.declared.state.Event.{Event}
use Rattle.c_form_settings.specs.declared.state.Event.TheVariants.{Choice, Loop, Break, Close, Set}
use Rattle.c_form_settings.specs.declared.state.State.{State}
use Rattle.c_form_settings.specs.declared.state.State.TheVariants.{Settled, AwaitsChoice, FirstArm, FirstArmSet, SecondArm, SecondArmSet, AwaitsLoop, BeforeBreak, BehindBreak, Gone}
use Rattle.c_form_settings.specs.Passes.{waits}
use Rattle.c_form_settings.specs.States.{size, here, at_choice, at_loop, at_break, at_end, becomes, open_after}

-- a state that stays, or that changes and then waits for nothing or has more blocks of its own
pub data Kind (event : Event) (s : State) : Type 0 where
  stays : becomes event s ≡ s → Kind event s
  waits_no_more : 1 ≤ size s → size (becomes event s) ≤ open_after event (size s) → waits (becomes event s) ≡ None → Kind event s
  deeper : 1 ≤ size s → size (becomes event s) ≤ open_after event (size s) → size s < size (becomes event s) → Kind event s

pub kind : (event : Event) (s : State) → Kind event s
kind Choice Settled = stays refl
kind Choice AwaitsChoice = waits_no_more (omega arith) (omega arith) refl
kind Choice FirstArm = stays refl
kind Choice FirstArmSet = stays refl
kind Choice SecondArm = stays refl
kind Choice SecondArmSet = stays refl
kind Choice AwaitsLoop = stays refl
kind Choice BeforeBreak = stays refl
kind Choice BehindBreak = stays refl
kind Choice Gone = stays refl
kind Loop Settled = stays refl
kind Loop AwaitsChoice = stays refl
kind Loop FirstArm = stays refl
kind Loop FirstArmSet = stays refl
kind Loop SecondArm = stays refl
kind Loop SecondArmSet = stays refl
kind Loop AwaitsLoop = deeper (omega arith) (omega arith) (omega arith)
kind Loop BeforeBreak = stays refl
kind Loop BehindBreak = stays refl
kind Loop Gone = stays refl
kind Break Settled = stays refl
kind Break AwaitsChoice = stays refl
kind Break FirstArm = stays refl
kind Break FirstArmSet = stays refl
kind Break SecondArm = stays refl
kind Break SecondArmSet = stays refl
kind Break AwaitsLoop = stays refl
kind Break BeforeBreak = waits_no_more (omega arith) (omega arith) refl
kind Break BehindBreak = stays refl
kind Break Gone = stays refl
kind Close Settled = waits_no_more (omega arith) (omega arith) refl
kind Close AwaitsChoice = waits_no_more (omega arith) (omega arith) refl
kind Close FirstArm = waits_no_more (omega arith) (omega arith) refl
kind Close FirstArmSet = waits_no_more (omega arith) (omega arith) refl
kind Close SecondArm = waits_no_more (omega arith) (omega arith) refl
kind Close SecondArmSet = waits_no_more (omega arith) (omega arith) refl
kind Close AwaitsLoop = waits_no_more (omega arith) (omega arith) refl
kind Close BeforeBreak = waits_no_more (omega arith) (omega arith) refl
kind Close BehindBreak = waits_no_more (omega arith) (omega arith) refl
kind Close Gone = stays refl
kind Set Settled = stays refl
kind Set AwaitsChoice = stays refl
kind Set FirstArm = waits_no_more (omega arith) (omega arith) refl
kind Set FirstArmSet = stays refl
kind Set SecondArm = waits_no_more (omega arith) (omega arith) refl
kind Set SecondArmSet = stays refl
kind Set AwaitsLoop = stays refl
kind Set BeforeBreak = stays refl
kind Set BehindBreak = waits_no_more (omega arith) (omega arith) refl
kind Set Gone = stays refl

pub choice-changes : (s : State) → (at_choice s ≡ s) ⊎ (s ≡ AwaitsChoice)
choice-changes Settled = inl refl
choice-changes AwaitsChoice = inr refl
choice-changes FirstArm = inl refl
choice-changes FirstArmSet = inl refl
choice-changes SecondArm = inl refl
choice-changes SecondArmSet = inl refl
choice-changes AwaitsLoop = inl refl
choice-changes BeforeBreak = inl refl
choice-changes BehindBreak = inl refl
choice-changes Gone = inl refl

pub choice-over : (s : State) → waits (at_choice s) ≡ Some Choice → ⊥
choice-over Settled w = cc w
choice-over AwaitsChoice w = cc w
choice-over FirstArm w = cc w
choice-over FirstArmSet w = cc w
choice-over SecondArm w = cc w
choice-over SecondArmSet w = cc w
choice-over AwaitsLoop w = cc w
choice-over BeforeBreak w = cc w
choice-over BehindBreak w = cc w
choice-over Gone w = cc w

pub loop-changes : (s : State) → (at_loop s ≡ s) ⊎ (s ≡ AwaitsLoop)
loop-changes Settled = inl refl
loop-changes AwaitsChoice = inl refl
loop-changes FirstArm = inl refl
loop-changes FirstArmSet = inl refl
loop-changes SecondArm = inl refl
loop-changes SecondArmSet = inl refl
loop-changes AwaitsLoop = inr refl
loop-changes BeforeBreak = inl refl
loop-changes BehindBreak = inl refl
loop-changes Gone = inl refl

pub loop-over : (s : State) → waits (at_loop s) ≡ Some Loop → ⊥
loop-over Settled w = cc w
loop-over AwaitsChoice w = cc w
loop-over FirstArm w = cc w
loop-over FirstArmSet w = cc w
loop-over SecondArm w = cc w
loop-over SecondArmSet w = cc w
loop-over AwaitsLoop w = cc w
loop-over BeforeBreak w = cc w
loop-over BehindBreak w = cc w
loop-over Gone w = cc w

pub break-changes : (s : State) → (at_break s ≡ s) ⊎ (s ≡ BeforeBreak)
break-changes Settled = inl refl
break-changes AwaitsChoice = inl refl
break-changes FirstArm = inl refl
break-changes FirstArmSet = inl refl
break-changes SecondArm = inl refl
break-changes SecondArmSet = inl refl
break-changes AwaitsLoop = inl refl
break-changes BeforeBreak = inr refl
break-changes BehindBreak = inl refl
break-changes Gone = inl refl

pub break-over : (s : State) → waits (at_break s) ≡ Some Break → ⊥
break-over Settled w = cc w
break-over AwaitsChoice w = cc w
break-over FirstArm w = cc w
break-over FirstArmSet w = cc w
break-over SecondArm w = cc w
break-over SecondArmSet w = cc w
break-over AwaitsLoop w = cc w
break-over BeforeBreak w = cc w
break-over BehindBreak w = cc w
break-over Gone w = cc w

pub end-changes : (s : State) → (at_end s ≡ s) ⊎ (1 ≤ size s)
end-changes Settled = inr (omega arith)
end-changes AwaitsChoice = inr (omega arith)
end-changes FirstArm = inr (omega arith)
end-changes FirstArmSet = inr (omega arith)
end-changes SecondArm = inr (omega arith)
end-changes SecondArmSet = inr (omega arith)
end-changes AwaitsLoop = inr (omega arith)
end-changes BeforeBreak = inr (omega arith)
end-changes BehindBreak = inr (omega arith)
end-changes Gone = inl refl

pub end-size : (s : State) → size (at_end s) ≤ size s - 1
end-size Settled = omega arith
end-size AwaitsChoice = omega arith
end-size FirstArm = omega arith
end-size FirstArmSet = omega arith
end-size SecondArm = omega arith
end-size SecondArmSet = omega arith
end-size AwaitsLoop = omega arith
end-size BeforeBreak = omega arith
end-size BehindBreak = omega arith
end-size Gone = omega arith

pub end-once : (s : State) → (at_end (at_end s) ≡ at_end s) ⊎ (here (size s) (at_end s) ≡ false)
end-once Settled = inl refl
end-once AwaitsChoice = inl refl
end-once FirstArm = inr refl
end-once FirstArmSet = inr refl
end-once SecondArm = inr refl
end-once SecondArmSet = inr refl
end-once AwaitsLoop = inl refl
end-once BeforeBreak = inr refl
end-once BehindBreak = inr refl
end-once Gone = inl refl

pub waits-somewhere : (s : State) (event : Event) → waits s ≡ Some event → 1 ≤ size s
waits-somewhere Settled event w = cc w
waits-somewhere AwaitsChoice event w = omega arith
waits-somewhere FirstArm event w = cc w
waits-somewhere FirstArmSet event w = cc w
waits-somewhere SecondArm event w = cc w
waits-somewhere SecondArmSet event w = cc w
waits-somewhere AwaitsLoop event w = omega arith
waits-somewhere BeforeBreak event w = omega arith
waits-somewhere BehindBreak event w = cc w
waits-somewhere Gone event w = cc w

pub nowhere : (s : State) → size s ≤ 0 → s ≡ Gone
nowhere Settled h = let no : ⊥ = omega (arith, h) in absurd no
nowhere AwaitsChoice h = let no : ⊥ = omega (arith, h) in absurd no
nowhere FirstArm h = let no : ⊥ = omega (arith, h) in absurd no
nowhere FirstArmSet h = let no : ⊥ = omega (arith, h) in absurd no
nowhere SecondArm h = let no : ⊥ = omega (arith, h) in absurd no
nowhere SecondArmSet h = let no : ⊥ = omega (arith, h) in absurd no
nowhere AwaitsLoop h = let no : ⊥ = omega (arith, h) in absurd no
nowhere BeforeBreak h = let no : ⊥ = omega (arith, h) in absurd no
nowhere BehindBreak h = let no : ⊥ = omega (arith, h) in absurd no
nowhere Gone h = refl
