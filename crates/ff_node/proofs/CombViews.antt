-- A comb's parts as the list of its nodes and the list of its flags.
use Rattle.std.proofs.Common.{◌≡◌, ℕ, zero, suc, Bool, false, List, [], ◌∷◌, map, replicate, length, Vec, Global, refl, sym, ap, ◌∙◌, arith}
use Rattle.std.specs.Vec.{with_items}
use Rattle.std.proofs.lemmas.List.{with_items_is, length-map}
use Rattle.ff_node.specs.Behaviour.{Behaviour}
use Rattle.ff_node.specs.Comb.{Part, part, parts, running, opened, part_classes}

-- where no flag is set, all nodes run
pub parts-running : {N : Type 0} (ns : List N) (k : ℕ) → parts ns (replicate k false) ≡ running ns
parts-running [] k = refl
parts-running (n ∷ ns) zero = ap (λ ps. part n false ∷ ps) (parts-running ns zero)
parts-running (n ∷ ns) (suc k) = ap (λ ps. part n false ∷ ps) (parts-running ns k)

module _ {N : Type 0} (b : Behaviour N) where
  pub part_classes-parts : (ns : List N) (es : List Bool) → part_classes b (parts ns es) ≡ map b.class ns
  part_classes-parts [] es = refl
  part_classes-parts (n ∷ ns) [] = ap (λ cs. b.class n ∷ cs) (part_classes-parts ns [])
  part_classes-parts (n ∷ ns) (e ∷ es) = ap (λ cs. b.class n ∷ cs) (part_classes-parts ns es)

  pub opened-parts : (ns : List N) (es : List Bool) → map (opened b) (parts ns es) ≡ running (map b.opening ns)
  opened-parts [] es = refl
  opened-parts (n ∷ ns) [] = ap (λ ps. part (b.opening n) false ∷ ps) (opened-parts ns [])
  opened-parts (n ∷ ns) (e ∷ es) = ap (λ ps. part (b.opening n) false ∷ ps) (opened-parts ns es)

  -- opened nodes are an opened comb
  pub running-opened : (ns ms : List N) (es : List Bool) (ps : List (Part N)) → ms ≡ map b.opening ns → parts ns es ≡ ps
      → running ms ≡ map (opened b) ps
  running-opened ns ms es ps opening view = ap running opening ∙ sym (opened-parts ns es) ∙ ap (map (opened b)) view

  -- a comb whose nodes are opened is opened
  pub parts-opened : (ns ms : List N) (es : List Bool) (k : ℕ) (ps : List (Part N)) → ms ≡ map b.opening ns → parts ns es ≡ ps
      → parts ms (replicate k false) ≡ map (opened b) ps
  parts-opened ns ms es k ps opening view = parts-running ms k ∙ running-opened ns ms es ps opening view

  -- nodes of the same kinds are as many
  as_many : (v : Vec N Global) (ms : List N) → map b.opening ms ≡ map b.opening v.items → (with_items v ms).items ≡ ms
  as_many v ms kind =
      let long : length ms ≡ v.len = omega (arith, length-map ms b.opening, length-map v.items b.opening, ap length kind, v.ok.0) in
      with_items_is v ms long

  -- the same where the nodes are written in their place
  pub written-opened : (v : Vec N Global) (ms : List N) (es : List Bool) (k : ℕ) (ps : List (Part N)) → ms ≡ map b.opening v.items → parts v.items es ≡ ps
      → parts (with_items v ms).items (replicate k false) ≡ map (opened b) ps
  written-opened v ms es k ps opening view =
      let long : length ms ≡ v.len = omega (arith, length-map v.items b.opening, ap length opening, v.ok.0) in
      ap (λ ns. parts ns (replicate k false)) (with_items_is v ms long) ∙ parts-opened v.items ms es k ps opening view

  -- a comb whose nodes keep their kind keeps its own
  pub written-kept : (v : Vec N Global) (ms : List N) (es fs : List Bool) (ps : List (Part N)) → map b.opening ms ≡ map b.opening v.items → parts v.items es ≡ ps
      → map (opened b) (parts (with_items v ms).items fs) ≡ map (opened b) ps
  written-kept v ms es fs ps kind view =
      ap (λ ns. map (opened b) (parts ns fs)) (as_many v ms kind)
      ∙ opened-parts ms fs ∙ ap running kind ∙ sym (opened-parts v.items es) ∙ ap (map (opened b)) view
