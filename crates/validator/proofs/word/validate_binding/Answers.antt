-- By the opcode of the binding word: what it captures is checked, and another is told.
use Rattle.std.proofs.Common.{◌≡◌, ℕ, false, [], ◌∷◌, rules, ap, ◌∙◌}
use Rattle.base.specs.Lists.{elem}
use Rattle.opcodes.specs.Words.{GETUPVAL, MOVE, number_of}
use Rattle.opcodes.proofs.SplitLaws.{known_has, known_fits, unknown_has}
use Rattle.validator.proofs.BindingLaws.{binds_register, binds_upvalue, binds_nothing, binds_unknown}
use Rattle.validator.proofs.word.validate_binding.Goals as goal

pub returns-in-Known-Move : goal.returns-in-Known-Move
unfolding number_of
returns-in-Known-Move c =
    let split = c.decode-w.ensures in
    let move : number_of c.in-Known-Move.field-0 ≡ MOVE = search rules in
    binds_register _ c.args.limits.now _ _ _ split _ _ (known_has _ _ split _ c.in-Known-Move.is ∙ move) c.check.ensures

pub returns-in-Known-GetUpval : goal.returns-in-Known-GetUpval
unfolding number_of
returns-in-Known-GetUpval c =
    let split = c.decode-w.ensures in
    let getupval : number_of c.in-Known-GetUpval.field-0 ≡ GETUPVAL = search rules in
    binds_upvalue _ c.args.limits.now _ _ _ split _ _ (known_has _ _ split _ c.in-Known-GetUpval.is ∙ getupval) c.check-in-Known-GetUpval.ensures

pub returns-in-Known : goal.returns-in-Known
unfolding number_of
returns-in-Known c =
    let split = c.decode-w.ensures in
    let other : elem (number_of c.in-Known.field-0) (MOVE ∷ GETUPVAL ∷ []) ≡ false = search rules in
    let number = known_has _ _ split _ c.in-Known.is in
    binds_nothing _ c.args.limits.now _ _ _ split _ _ (ap (λ (n : ℕ). elem n (MOVE ∷ GETUPVAL ∷ [])) number ∙ other) (known_fits _ _ split _ c.in-Known.is) c.emit.ensures

pub returns-in-Unknown : goal.returns-in-Unknown
returns-in-Unknown c =
    let split = c.decode-w.ensures in
    binds_unknown _ c.args.limits.now _ _ _ split _ _ (unknown_has _ _ split _ c.in-Unknown.is) c.emit-in-Unknown.ensures
