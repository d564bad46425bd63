-- Six tests with what the opcode has in the table.
use Rattle.validator.proofs.CleanLaws.{operands_of, slot_a, slot_bx, slot_b, slot_c}
use Rattle.validator.proofs.clean.CleanTest.operands_below.Goals as goal
use Rattle.validator.proofs.clean.CleanTest.operands_below.Goals.{then-is_below, else-is_below, then-is_below-2, else-is_below-2, then-field_below, else-field_below, then-field_below-2, else-field_below-2}

pub is_below-requires : goal.is_below-requires
is_below-requires c = slot_a c.args.self.now.body.now.limits _ _ _ c.args.self.now.slots_of_body c.requires

pub is_below-requires-then-is_below : goal.is_below-requires-then-is_below
is_below-requires-then-is_below c = slot_bx c.args.self.now.body.now.limits _ _ _ c.args.self.now.slots_of_body c.requires

pub field_below-requires : goal.field_below-requires
field_below-requires c = slot_b c.args.self.now.body.now.limits _ _ _ c.args.self.now.slots_of_body c.requires

pub field_below-requires-then-field_below : goal.field_below-requires-then-field_below
field_below-requires-then-field_below c = slot_c c.args.self.now.body.now.limits _ _ _ c.args.self.now.slots_of_body c.requires

pub returns-then-span_below : goal.returns-then-span_below
returns-then-span_below c e =
    elim c.if-field_below-2.branch [
      | then-field_below-2 v ↦
          elim c.if-field_below.branch [
            | then-field_below u ↦
                elim c.if-is_below-2.branch [
                  | then-is_below-2 t ↦
                      elim c.if-is_below.branch [
                        | then-is_below s ↦ operands_of _ _ _ _ c.args.self.now.slots_of_body c.requires (cc) (cc) (cc) (cc) (cc) (cc)
                        | else-is_below s ↦ cc
                      ]
                  | else-is_below-2 t ↦ cc
                ]
            | else-field_below u ↦ cc
          ]
      | else-field_below-2 v ↦ cc
    ]
