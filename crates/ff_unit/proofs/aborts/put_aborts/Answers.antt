use Rattle.std.proofs.Common.{◌≡◌, ◌<◌, ◌≤◌, ℕ, suc, ◌+◌, ◌-◌, length, refl, ◌∙◌, ap, arith, replicate, [], ◌∷◌}
use Rattle.ff_rec.specs.declared.msg.Msg.TheVariants.{Abort as AbortMsg}
use Rattle.ff_unit.proofs.UnitAborts.{length-abort_puts, IsOpen-abort_puts, PutsAt-abort, room-other, abort_puts-next, abort_puts-all}
use Rattle.ff_unit.proofs.aborts.put_aborts.Goals as goal

pub loop-k-init : goal.loop-k-init
loop-k-init g c = record {
  puts = λ m e.
      let number : length (g.P.Ports.puts c.args.ports.now) ≡ m = omega (arith, e, c.outs-k-end.ensures) in
      c.requires.none ∙ ap (λ n. replicate n []) number;
  rooms = λ j low below. c.requires.room j (omega (arith, below, c.outs-k-end.ensures));
  gots = refl;
  link = refl;
}

pub try_put-requires-clause-within : goal.try_put-requires-clause-within
try_put-requires-clause-within g c =
    let k = c.loop-k.k in
    let left : ℕ = c.outs-k-end.result - k in
    let all : k + left ≡ c.outs-k-end.result = omega (arith, c.loop-k-test.true) in
    let number : length (g.P.Ports.puts c.loop-k.ports) ≡ k + left = ap length (c.loop-k.invariant.puts left all) ∙ length-abort_puts k left in
    omega (arith, number, all, c.loop-k-test.true)

pub try_put-requires-clause-inner : goal.try_put-requires-clause-inner
try_put-requires-clause-inner g c =
    let k = c.loop-k.k in
    let left : ℕ = c.outs-k-end.result - k - 1 in
    let all : k + suc left ≡ c.outs-k-end.result = omega (arith, c.loop-k-test.true) in
    IsOpen-abort_puts (g.P.Ports.puts c.loop-k.ports) k left (c.loop-k.invariant.puts (suc left) all)

pub loop-k-preserved : goal.loop-k-preserved
loop-k-preserved g c =
    let k = c.loop-k.k in
    let here : k ≤ k = omega arith in
    record {
      puts = λ m e.
          let all : k + suc m ≡ c.outs-k-end.result = omega (arith, e) in
          abort_puts-next (g.P.Ports.puts c.loop-k.ports) (g.P.Ports.puts c.try_put.new.self) k m (c.loop-k.invariant.puts (suc m) all)
          (PutsAt-abort g.P.Ports.grows k (g.P.Ports.puts c.loop-k.ports) (g.P.Ports.rooms c.loop-k.ports) c.try_put.result (g.P.Ports.puts c.try_put.new.self)
          (g.P.Ports.rooms c.try_put.new.self) c.try_put.ensures.puts (c.loop-k.invariant.rooms k here c.loop-k-test.true));
      rooms = λ j low below.
          let behind : k < j = omega (arith, low) in
          let from : k ≤ j = omega (arith, low) in
          room-other (g.P.Ports.rooms c.loop-k.ports) (g.P.Ports.rooms c.try_put.new.self) k j c.try_put.ensures.others behind (c.loop-k.invariant.rooms j from below);
      gots = c.try_put.ensures.gots ∙ c.loop-k.invariant.gots;
      link = c.try_put.ensures.link ∙ c.loop-k.invariant.link;
    }

pub returns-clause-puts : goal.returns-clause-puts
returns-clause-puts g c =
    let k = c.loop-k.k in
    let all : k + 0 ≡ c.outs-k-end.result = omega (arith, c.loop-k-test.false, c.loop-k.auto.k-end) in
    let number : k ≡ length (g.P.Ports.puts c.args.ports.now) = omega (arith, all, c.outs-k-end.ensures) in
    c.loop-k.invariant.puts 0 all ∙ abort_puts-all k ∙ ap (λ n. replicate n (AbortMsg ∷ [])) number
