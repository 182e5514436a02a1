-- The place moves on by one record.
use Rattle.std.proofs.Common.{◌≡◌, ◌<◌, false, true, leb, length, sym, ◌∙◌, arith}
use Rattle.ff_steps.proofs.Moving.{passed_on-more}
use Rattle.ff_steps.proofs.feeder.Feeder.pass.Goals as goal
use Rattle.ff_steps.proofs.feeder.Feeder.pass.Goals.{then-self, else-self}

pub returns-else-len-self-clause-passed : goal.returns-else-len-self-clause-passed
returns-else-len-self-clause-passed c = elim c.if-self.branch [
  | then-self w ↦ let clash : true ≡ false = sym w.if-self.true ∙ sym w.value-is ∙ c.if-len-self.false in cc
  | else-self w ↦
      let above : leb w.len.result c.args.self.now.fed ≡ false = sym w.value-is ∙ c.if-len-self.false in
      let within : c.args.self.now.fed < length c.args.self.now.input = grind (arith, above, w.len.ensures) in
      passed_on-more c.args.self.now.input c.args.self.now.fed _ _ w.if-self.false c.requires within
]
