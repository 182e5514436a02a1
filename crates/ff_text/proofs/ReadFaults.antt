-- The fault of a whole text is where its wants stop.
use Rattle.std.proofs.Common.{◌≡◌, ℕ, ◌≤◌, List, [], ◌∷◌, length, Err, sym, ap, ◌∙◌}
use Rattle.ff_text.specs.declared.fault.ReadFault.{ReadFault}
use Rattle.ff_text.specs.declared.fault.ReadFault.TheVariants.{Text, TooLong, NoMemory}
use Rattle.ff_text.specs.Tokens.{PlacedToken}
use Rattle.ff_text.specs.Cutting.{tokens}
use Rattle.ff_text.specs.Names.{one}
use Rattle.ff_text.specs.Wants.{Want, Network, Finish, walk, start}
use Rattle.ff_text.specs.Reading.{IsEaten, IsStopped, IsReadFault}
use Rattle.ff_text.proofs.FirstFault.{first_fault}

-- the network stops
pub fault-network : (A : Type 0) (text : List ℕ) (fault : ReadFault) (old new : List PlacedToken) → length text ≤ 65536 → old ≡ tokens text
    → IsEaten {A = A} one (Network 15 ∷ []) (Err fault) old new → IsReadFault text fault
fault-network A text (Text at kind) old new within same h =
    (within, first_fault (tokens text) (record { at = at; kind = kind }) (ap (λ spots. walk one spots start) (sym same) ∙ h (Finish ∷ [])))
fault-network A text TooLong old new within same h = absurd h
fault-network A text NoMemory old new within same h = tt

-- something stands behind it
pub fault-finish : (text : List ℕ) (fault : ReadFault) (old mid : List PlacedToken) → length text ≤ 65536 → old ≡ tokens text
    → ((ws : List Want) → walk one old (Network 15 ∷ ws) ≡ walk one mid ws) → IsStopped one (Finish ∷ []) fault mid → IsReadFault text fault
fault-finish text (Text at kind) old mid within same before h =
    (within, first_fault (tokens text) (record { at = at; kind = kind }) (ap (λ spots. walk one spots start) (sym same) ∙ before (Finish ∷ []) ∙ h []))
fault-finish text TooLong old mid within same before h = absurd h
fault-finish text NoMemory old mid within same before h = tt
