-- What the check of a network answers.
use Rattle.std.specs.Prelude.{ℕ, List, Option, None, Some, Result, Ok, Err}
use Rattle.ff_net.specs.declared.fault.RuleFault.{RuleFault}

-- the rule and the place of what may be a fault
abbrev pub named : Option RuleFault → Option (ℕ × List ℕ)
named None = None
named (Some f) = Some (f.rule, f.path)

-- the rule and the place that an answer names, if it is a fault
abbrev pub fault_in : {A : Type 0} → Result A RuleFault → Option (ℕ × List ℕ)
fault_in (Ok c) = None
fault_in (Err f) = Some (f.rule, f.path)
