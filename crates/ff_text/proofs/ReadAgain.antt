-- What is printed of a network is read as it was before its nodes' first records.
use Rattle.std.proofs.Common.{◌≡◌, ℕ, ◌≤◌, List, [], ◌∷◌, ◌++◌, length, codes, refl, sym, ap, ◌∙◌, append_assoc, arith}
use Rattle.std.proofs.lemmas.List.{append_cancel_right, map-append}
use Rattle.ff_ops.specs.Operation.{OpState, op_node}
use Rattle.ff_net.specs.Tree.{Tree, Trees, Leaf, Pipe, Comb, Farm, OFarm, A2a, Wrap, none, more}
use Rattle.ff_text.specs.declared.fault.ReadFault.{ReadFault}
use Rattle.ff_text.specs.declared.fault.ReadFault.TheVariants.{Text, TooLong, NoMemory}
use Rattle.ff_text.specs.Tokens.{Stop, PlacedToken}
use Rattle.ff_text.specs.Cutting.{tokens}
use Rattle.ff_text.specs.Printing.{tokens_of, PrintedIsCut}
use Rattle.ff_net.specs.Nodes.{opened, all_opened}
use Rattle.ff_text.specs.Grammar.{IsNet, spelling}
use Rattle.ff_text.specs.Faults.{text_of, Fault, IsFault}
use Rattle.ff_text.specs.Reading.{IsReadFault}
use Rattle.ff_text.specs.NetPrinting.{printed_farm, printed_side, printed_middle, printed_test, printed_net, printed_parts, printed_behind}
use Rattle.ff_text.specs.PrintLaw.{PrintedNetsAreReadAgain}
use Rattle.ff_text.proofs.OneNet.{spelling_is_of_one_net}
use Rattle.ff_text.proofs.NetPieces.{printed_nets_are_spelled}

-- what is printed shows nothing of what the nodes did
mutual
  printed_net-opened : (t : Tree OpState) → printed_net (opened op_node t) ≡ printed_net t
  printed_net-opened (Leaf o) = refl
  printed_net-opened (Pipe ts) = ap (λ bs. codes "pipe(" ++ bs) (printed_parts-opened ts)
  printed_net-opened (Comb ts) = ap (λ bs. codes "comb(" ++ bs) (printed_parts-opened ts)
  printed_net-opened (Farm n s w) = ap (λ bs. printed_farm (codes "farm") n s ++ (bs ++ codes ")")) (printed_net-opened w)
  printed_net-opened (OFarm n s w) = ap (λ bs. printed_farm (codes "ofarm") n s ++ (bs ++ codes ")")) (printed_net-opened w)
  printed_net-opened (A2a n l r m t) =
      ap (λ bs. printed_side (codes "a2a") n ++ (bs ++ (printed_middle r m ++ (printed_net (opened op_node t) ++ codes ")")))) (printed_net-opened l)
      ∙ ap (λ bs. printed_side (codes "a2a") n ++ (printed_net l ++ (printed_middle r m ++ (bs ++ codes ")")))) (printed_net-opened t)
  printed_net-opened (Wrap n w test) = ap (λ bs. printed_side (codes "wrap") n ++ (bs ++ printed_test test)) (printed_net-opened w)

  printed_parts-opened : (ts : Trees OpState) → printed_parts (all_opened op_node ts) ≡ printed_parts ts
  printed_parts-opened none = refl
  printed_parts-opened (more t ts) =
      ap (λ bs. bs ++ printed_behind (all_opened op_node ts)) (printed_net-opened t) ∙ ap (λ bs. printed_net t ++ bs) (printed_behind-opened ts)

  printed_behind-opened : (ts : Trees OpState) → printed_behind (all_opened op_node ts) ≡ printed_behind ts
  printed_behind-opened none = refl
  printed_behind-opened (more t ts) =
      ap (λ bs. codes ", " ++ (bs ++ printed_behind (all_opened op_node ts))) (printed_net-opened t)
      ∙ ap (λ bs. codes ", " ++ (printed_net t ++ bs)) (printed_behind-opened ts)

-- a text of a network has no fault
tokens_of-split : (before : List PlacedToken) (spot : PlacedToken) (after : List PlacedToken)
    → tokens_of (before ++ spot ∷ after) ≡ (tokens_of before ++ spot.token ∷ []) ++ tokens_of after
tokens_of-split before spot after =
    map-append (λ (s : PlacedToken). s.token) before (spot ∷ after) ∙ sym (append_assoc (tokens_of before) (spot.token ∷ []) (tokens_of after))

IsFault-spelled : (spots : List PlacedToken) (t : Tree OpState) (f : Fault) → IsNet t 15 → tokens_of spots ≡ text_of t → IsFault spots f → ⊥
IsFault-spelled spots t f net spelled fault =
    fault.stuck (t, tokens_of fault.after, net, sym spelled ∙ ap tokens_of fault.whole ∙ tokens_of-split fault.before fault.spot fault.after)

faultless : (text : List ℕ) (t : Tree OpState) → IsNet t 15 → tokens_of (tokens text) ≡ text_of t → length text ≤ 65536 → (fault : ReadFault) → IsReadFault text fault → fault ≡ NoMemory
faultless text t net spelled short (Text at kind) h = absurd (IsFault-spelled (tokens text) t (record { at = at; kind = kind }) net spelled h.1)
faultless text t net spelled short TooLong h = absurd (omega arith)
faultless text t net spelled short NoMemory h = refl

only : (t u : Tree OpState) (text : List ℕ) → IsNet t 15 → IsNet u 15 → tokens_of (tokens text) ≡ text_of t → tokens_of (tokens text) ≡ text_of u → u ≡ t
only t u text net_t net_u spelled_t spelled_u =
    spelling_is_of_one_net u t 15 net_u net_t (append_cancel_right (spelling u) (spelling t) (Stop ∷ []) (sym spelled_u ∙ spelled_t))

pub printed_nets_are_read_again : PrintedIsCut → PrintedNetsAreReadAgain
printed_nets_are_read_again cut t net can short =
    let spelled = ap (λ bs. tokens_of (tokens bs)) (sym (printed_net-opened t)) ∙ printed_nets_are_spelled cut (opened op_node t) 15 net can in
    record {
      net = net;
      spelled = spelled;
      only = λ u net_u spelled_u. only (opened op_node t) u (printed_net t) net net_u spelled spelled_u;
      faultless = faultless (printed_net t) (opened op_node t) net spelled short;
    }
