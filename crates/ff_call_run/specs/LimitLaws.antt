-- A limit that an input passes is the same, however much of it is read.
use Rattle.std.proofs.Common.{◌≡◌, ℕ, ◌^◌, List, [], ◌∷◌, ◌++◌, Option, None, Some, IfSome, refl, sym, ap, subst, ◌∙◌}
use Rattle.std.specs.Prelude.{option_map}
use Rattle.std.specs.Io.KnownBytes.{Consumes}
use Rattle.ff_rec.specs.Limits.{ReadingLaw}
use Rattle.ff_rec.specs.Reading.{Reading, after, opening, next}
use Rattle.ff_rec.specs.ReadingLaws.{after-append}
use Rattle.ff_rec.specs.declared.fault.FeedFault.{FeedFault}
use Rattle.ff_rec.specs.declared.fault.FeedFault.TheVariants.{Line}
use Rattle.ff_rec.specs.declared.fault.LineFault.{LineFault}
use Rattle.ff_net.specs.Versions.{limit_by}
use Rattle.ff_call.specs.Texts.{version}

-- a reader that was refused stays so
after-fault : (s : Reading) (f : FeedFault) (cs : List ℕ) → s.fault ≡ Some f → after s cs ≡ s
after-fault s f [] e = refl
after-fault s f (c ∷ cs) e =
    let stays : next s.fault s c ≡ s = ap (λ (o : Option FeedFault). next o s c) e in
    ap (λ (t : Reading). after t cs) stays ∙ after-fault s f cs e

Line-is : (a b : Option LineFault) (f : LineFault) → option_map Line a ≡ option_map Line b → a ≡ Some f → b ≡ Some f
Line-is a None f e is = absurd (cc)
Line-is a (Some g) f e is = cc

-- a limit that is passed stays the first, whatever bytes follow
limit_by-more : ReadingLaw → (xs ys : List ℕ) (f : LineFault) → limit_by version xs ≡ Some f → limit_by version (xs ++ ys) ≡ Some f
limit_by-more law xs ys f e =
    let here = (law 65536 (2 ^ 40) xs).fault in
    let there = (law 65536 (2 ^ 40) (xs ++ ys)).fault in
    let fed : (after (opening 65536 (2 ^ 40)) xs).fault ≡ Some (Line f) = here ∙ ap (λ (o : Option LineFault). option_map Line o) e in
    let same : after (opening 65536 (2 ^ 40)) (xs ++ ys) ≡ after (opening 65536 (2 ^ 40)) xs =
    after-append (opening 65536 (2 ^ 40)) xs ys ∙ after-fault (after (opening 65536 (2 ^ 40)) xs) (Line f) ys fed in
    Line-is (limit_by version xs) (limit_by version (xs ++ ys)) f (sym here ∙ ap (λ (r : Reading). r.fault) (sym same) ∙ there) e

-- the same of what a source had
pub limit_by-left : ReadingLaw → (left now : Option (List ℕ)) (got : List ℕ) (f : LineFault) → Consumes left now got → limit_by version got ≡ Some f
    → IfSome left (λ bytes. limit_by version bytes ≡ Some f)
limit_by-left law None now got f reads e = tt
limit_by-left law (Some bytes) None got f reads e = absurd reads
limit_by-left law (Some bytes) (Some rest) got f reads e = subst (λ (b : List ℕ). limit_by version b ≡ Some f) (sym reads) (limit_by-more law got rest f e)
