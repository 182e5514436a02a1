-- The lists that were made hold an end for each.
use Rattle.std.proofs.Common.{◌≡◌, [], length, map, replicate, ap, ◌∙◌, arith}
use Rattle.ff_port.specs.Queues.{put_of}
use Rattle.ff_test_ports.proofs.FreshQueues.{map-nothing}
use Rattle.ff_test_ports.proofs.ends.ports_of.Goals as goal

pub returns-clause-gots : goal.returns-clause-gots
returns-clause-gots c =
    let ins = c.loop-script.ins.items in
    let number : length ins ≡ length c.args.scripts.now = omega (arith, c.loop-script.invariant.1) in
    ap (λ p. map (λ q. q.got) p.ins.items) c.new-3.ensures ∙ ap (λ v. map (λ q. q.got) v.items) c.new-2.ensures.ins
    ∙ map-nothing (λ q. q.got) ins c.loop-script.invariant.0 ∙ ap (λ n. replicate n []) number

pub returns-clause-puts : goal.returns-clause-puts
returns-clause-puts c =
    let outs = c.loop.empty.items in
    let number : length outs ≡ c.args.outs = omega (arith, c.loop.invariant.1) in
    ap (λ p. map (λ q. put_of q) p.outs.items) c.new-3.ensures ∙ ap (λ v. map (λ q. put_of q) v.items) c.new-2.ensures.outs
    ∙ map-nothing (λ q. put_of q) outs c.loop.invariant.0 ∙ ap (λ n. replicate n []) number
