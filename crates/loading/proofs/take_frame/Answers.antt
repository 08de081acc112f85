-- `take_frame` meets its contract: the frame's two values decide as the definition does. Assumes nothing.
use mathlib.Core.Path.{sym, ◌∙◌, ap}
use mathlib.Core.List.{map}
use Prim.Native.Nat.{◌+◌}
use native.Mathlib.Omega.{arith}
use Rattle.std.specs.Prelude.{option_map}
use Rattle.loading.proofs.ReadFrames.{fields_of, none_stands, said_within, other_stands, frame_stands, first_said, second_said}
use Rattle.loading.proofs.ReadHalves.{elements_entered, halves_passed}
use Rattle.loading.proofs.take_frame.Goals as goal

pub returns-in_default : goal.returns-in_default
returns-in_default g c =
    let K = g.K.FrameKind in
    let a = c.args in
    let said = fields_of K.kind a.text.now a.at a.k c.DIGITS.ensures c.CODE.ensures K.shaped c.fields_at.ensures in
    halves_passed K.kind a.text.now a.at K.COUNT a.k (map g.K.Elements.number a.list.now) (none_stands K.kind a.text.now a.at a.k (said ∙ c.in_default.is))

pub returns-in_default-elements_said : goal.returns-in_default-elements_said
returns-in_default-elements_said g c =
    let K = g.K.FrameKind in
    let a = c.args in
    let said = fields_of K.kind a.text.now a.at a.k c.DIGITS.ensures c.CODE.ensures K.shaped c.fields_at.ensures ∙ c.in-Some.is in
    let given = sym c.elements_said.ensures ∙ ap (option_map (λ v. (g.K.Elements.number v.0, g.K.Elements.number v.1))) c.in_default-elements_said.is in
    halves_passed K.kind a.text.now a.at K.COUNT a.k (map g.K.Elements.number a.list.now) (other_stands K.kind a.text.now a.at a.k said given)

pub overflow_add-result : goal.overflow_add-result
overflow_add-result g c =
    let K = g.K.FrameKind in
    let a = c.args in
    let said = fields_of K.kind a.text.now a.at a.k c.DIGITS.ensures c.CODE.ensures K.shaped c.fields_at.ensures ∙ c.in-Some.is in
    let within = said_within K.kind a.text.now a.at a.k said in
    let size = c.SIZE.ensures ∙ K.sized in
    omega arith

pub returns : goal.returns
returns g c =
    let K = g.K.FrameKind in
    let a = c.args in
    let said = fields_of K.kind a.text.now a.at a.k c.DIGITS.ensures c.CODE.ensures K.shaped c.fields_at.ensures ∙ c.in-Some.is in
    let two = c.in-Some-elements_said in
    let given = sym c.elements_said.ensures ∙ ap (option_map (λ v. (g.K.Elements.number v.0, g.K.Elements.number v.1))) two.is in
    elements_entered K.kind a.text.now a.at K.COUNT a.k g.K.Elements.number a.list.now (c.SIZE.ensures ∙ K.sized) (ap (λ n. n + a.k) c.COUNT.ensures) c.requires.0
    (frame_stands K.kind a.text.now a.at a.k said given)
    (first_said K.kind a.text.now a.at a.k said given)
    (second_said K.kind a.text.now a.at a.k said given)
