-- How the calling thread goes on: one stretch behind another.
use Rattle.std.proofs.Common.{◌≡◌, ℕ, List, [], ◌∷◌, ◌++◌, refl, sym, ap, ap₂, ◌∙◌, append_assoc, append-nil}
use Rattle.std.specs.Prelude.{Option, None, Some, Result, Ok, Err}
use Rattle.std.proofs.KnownBytes.{Appends-nil, Appends-trans}
use Rattle.std.proofs.lemmas.Grind.{flat_map-append}
use Rattle.ff_rec.specs.Lines.{Rec, line_of, text}
use Rattle.ff_rec.specs.Streams.{items}
use Rattle.ff_rec.specs.declared.msg.Msg.TheVariants.{Item, Mark, Pick, Eos, Abort}
use Rattle.ff_node.specs.Runs.{Message}
use Rattle.ff_stream.specs.Works.{halt_count}
use Rattle.ff_stream.specs.declared.fault.Halt.{Halt}
use Rattle.ff_stream.specs.declared.fault.Halt.TheVariants.{Write, NoMemory}
use Rattle.ff_unit.specs.MessageLaws.{items-append}
use Rattle.ff_engine.specs.Callers.{CallerState, Moves, Breaks, SameRings, GoesOn, TakesMore, Receives, Feeds}

pub SameRings-trans : (c d e : CallerState) → SameRings c d → SameRings d e → SameRings c e
SameRings-trans c d e first second = record { writes = second.writes ∙ first.writes; reads = second.reads ∙ first.reads; holds = second.holds ∙ first.holds }

pub TakesMore-trans : (c d e : CallerState) → TakesMore c d → TakesMore d e → TakesMore c e
TakesMore-trans c d e first second = record {
  more = first.more ++ second.more;
  is = second.is ∙ ap (λ ms. ms ++ second.more) first.is ∙ append_assoc c.got first.more second.more;
}

-- one stretch behind another
pub Moves-trans : (c d e : CallerState) (t t' t'' : Option (List ℕ)) → d.holds ≡ c.holds → Moves c d t t' → Moves d e t' t'' → Moves c e t t''
Moves-trans c d e t t' t'' same first second = record {
  written = first.written ++ second.written;
  taken = Appends-trans t t' t'' first.written second.written first.taken second.taken;
  shows = λ front at. second.shows (front ++ first.written) (first.shows front at) ∙ ap (λ l. l ++ e.text) (append_assoc front first.written second.written);
  waits = λ holds. ap₂ (λ l k. l ++ k) (first.waits holds) (second.waits (same ∙ holds));
}

-- a stretch behind which writing broke off
pub Breaks-behind : (c d e : CallerState) (t t' t'' : Option (List ℕ)) → d.holds ≡ c.holds → Moves c d t t' → Breaks d e t' t'' → Breaks c e t t''
Breaks-behind c d e t t' t'' same first second = record {
  written = first.written ++ second.written;
  taken = Appends-trans t t' t'' first.written second.written first.taken second.taken;
  shows = λ front at.
      let rest = second.shows (front ++ first.written) (first.shows front at) in
      (rest.0, rest.1 ∙ ap (λ l. l ++ rest.0) (append_assoc front first.written second.written));
  waits = λ holds. ap₂ (λ l k. l ++ k) (first.waits holds) (second.waits (same ∙ holds));
}

-- more that was taken and isn't shown
pub Breaks-more : (c d e : CallerState) (t t' : Option (List ℕ)) → Breaks c d t t' → TakesMore d e → Breaks c e t t'
Breaks-more c d e t t' broke more = record {
  written = broke.written;
  taken = broke.taken;
  shows = λ front at.
      let rest = broke.shows front at in (
        rest.0 ++ text (items more.more),
        ap (λ ms. text (items ms)) more.is ∙ ap text (items-append d.got more.more) ∙ flat_map-append line_of (items d.got) (items more.more)
            ∙ ap (λ l. l ++ text (items more.more)) rest.1 ∙ append_assoc (front ++ broke.written) rest.0 (text (items more.more)),
      );
  waits = broke.waits;
}

-- the text of one message more
text-more : (ms : List Message) (m : Message) → text (items (ms ++ m ∷ [])) ≡ text (items ms) ++ text (items (m ∷ []))
text-more ms m = ap text (items-append ms (m ∷ [])) ∙ flat_map-append line_of (items ms) (items (m ∷ []))

-- a record came, and its line is held
pub Moves-held : (c e : CallerState) (r : Rec) (t : Option (List ℕ)) → e.got ≡ c.got ++ Item r ∷ [] → e.text ≡ c.text ++ line_of r → Moves c e t t
Moves-held c e r t took printed = record {
  written = [];
  taken = Appends-nil t;
  shows = λ front at.
      ap (λ ms. text (items ms)) took ∙ text-more c.got (Item r) ∙ ap (λ l. l ++ text (r ∷ [])) at
      ∙ append_assoc front c.text (text (r ∷ [])) ∙ ap (λ l. front ++ (c.text ++ l)) (append-nil (line_of r))
      ∙ ap (λ l. front ++ l) (sym printed) ∙ ap (λ l. l ++ e.text) (sym (append-nil front));
  waits = λ holds. refl;
}

-- a record came that can't be held
pub Breaks-starved : (c e : CallerState) (r : Rec) (t : Option (List ℕ)) → e.got ≡ c.got ++ Item r ∷ [] → Breaks c e t t
Breaks-starved c e r t took = record {
  written = [];
  taken = Appends-nil t;
  shows = λ front at. (
    c.text ++ text (r ∷ []),
    ap (λ ms. text (items ms)) took ∙ text-more c.got (Item r) ∙ ap (λ l. l ++ text (r ∷ [])) at
        ∙ append_assoc front c.text (text (r ∷ [])) ∙ ap (λ l. l ++ (c.text ++ text (r ∷ []))) (sym (append-nil front)),
  );
  waits = λ holds. refl;
}

-- a message came that carries nothing
pub Moves-empty : (c e : CallerState) (m : Message) (t : Option (List ℕ)) → items (m ∷ []) ≡ [] → e.got ≡ c.got ++ m ∷ [] → e.text ≡ c.text → Moves c e t t
Moves-empty c e m t none took same = record {
  written = [];
  taken = Appends-nil t;
  shows = λ front at.
      ap (λ ms. text (items ms)) took ∙ text-more c.got m ∙ ap (λ xs. text (items c.got) ++ text xs) none ∙ append-nil (text (items c.got)) ∙ at
      ∙ ap (λ l. front ++ l) (sym same) ∙ ap (λ l. l ++ e.text) (sym (append-nil front));
  waits = λ holds. refl;
}

-- a message came that isn't a record
pub Moves-other : (c e : CallerState) (m : Message) (t : Option (List ℕ)) → ((r : Rec) → m ≡ Item r → ⊥) → Receives c (Some m) e → Moves c e t t
Moves-other c e (Item r) t other came = absurd (other r refl)
Moves-other c e Mark t other came = Moves-empty c e Mark t refl came.0 came.2
Moves-other c e (Pick w) t other came = Moves-empty c e (Pick w) t refl came.0 came.2
Moves-other c e Eos t other came = Moves-empty c e Eos t refl came.0 came.2
Moves-other c e Abort t other came = Moves-empty c e Abort t refl came.0 came.2

-- a message was put on the first ring
pub Moves-fed : (c e : CallerState) (m : Message) (t : Option (List ℕ)) → Feeds c m None e → Moves c e t t
Moves-fed c e m t fed = record {
  written = [];
  taken = Appends-nil t;
  shows = λ front at.
      ap (λ s. text (items s.got)) fed ∙ at ∙ ap (λ l. l ++ c.text) (sym (append-nil front)) ∙ ap (λ s. (front ++ []) ++ s.text) (sym fed);
  waits = λ holds. refl;
}

-- a stretch behind which a call goes on, or breaks off
pub GoesOn-behind : {A : Type 0} (answer : Result A Halt) (c d e : CallerState) (t t' t'' : Option (List ℕ)) (n n' n'' : ℕ) → Moves c d t t' → SameRings c d → n' ≡ n
    → GoesOn d answer e t' t'' n' n'' → GoesOn c answer e t t'' n n''
GoesOn-behind {A} (Ok a) c d e t t' t'' n n' n'' moves rings counts goes = record {
  moves = Moves-trans c d e t t' t'' rings.holds moves goes.moves;
  breaks = tt;
  rings = SameRings-trans c d e rings goes.rings;
  counts = goes.counts ∙ counts;
  starves = tt;
}
GoesOn-behind {A} (Err halt) c d e t t' t'' n n' n'' moves rings counts goes = record {
  moves = tt;
  breaks = Breaks-behind c d e t t' t'' rings.holds moves goes.breaks;
  rings = SameRings-trans c d e rings goes.rings;
  counts = goes.counts ∙ ap (λ k. halt_count {A = A} k (Err halt)) counts;
  starves = λ holds. goes.starves (rings.holds ∙ holds);
}

-- and where it breaks off, so does the call that made it
pub GoesOn-broken : {A B : Type 0} (halt : Halt) (c d e : CallerState) (t t' t'' : Option (List ℕ)) (n n' n'' : ℕ) → Moves c d t t' → SameRings c d → n' ≡ n
    → GoesOn {A = A} d (Err halt) e t' t'' n' n'' → GoesOn {A = B} c (Err halt) e t t'' n n''
GoesOn-broken {A} {B} Write c d e t t' t'' n n' n'' moves rings counts goes = record {
  moves = tt;
  breaks = Breaks-behind c d e t t' t'' rings.holds moves goes.breaks;
  rings = SameRings-trans c d e rings goes.rings;
  counts = goes.counts ∙ ap (λ k. halt_count {A = B} k (Err Write)) counts;
  starves = λ holds. goes.starves (rings.holds ∙ holds);
}
GoesOn-broken {A} {B} NoMemory c d e t t' t'' n n' n'' moves rings counts goes = record {
  moves = tt;
  breaks = Breaks-behind c d e t t' t'' rings.holds moves goes.breaks;
  rings = SameRings-trans c d e rings goes.rings;
  counts = goes.counts ∙ counts;
  starves = λ holds. goes.starves (rings.holds ∙ holds);
}

-- and more is taken of which nothing is shown
pub GoesOn-more : {A B : Type 0} (halt : Halt) (c d e : CallerState) (t t' : Option (List ℕ)) (n n' : ℕ) → GoesOn {A = A} c (Err halt) d t t' n n' → TakesMore d e → SameRings d e
    → GoesOn {A = B} c (Err halt) e t t' n n'
GoesOn-more Write c d e t t' n n' goes more rings = record {
  moves = tt;
  breaks = Breaks-more c d e t t' goes.breaks more;
  rings = SameRings-trans c d e goes.rings rings;
  counts = goes.counts;
  starves = goes.starves;
}
GoesOn-more NoMemory c d e t t' n n' goes more rings = record {
  moves = tt;
  breaks = Breaks-more c d e t t' goes.breaks more;
  rings = SameRings-trans c d e goes.rings rings;
  counts = goes.counts;
  starves = goes.starves;
}
