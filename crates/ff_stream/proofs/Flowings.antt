-- How a node works as the records come.
use Rattle.std.proofs.Common.{◌≡◌, ℕ, Bool, true, false, List, [], ◌∷◌, ◌++◌, refl, sym, ap, ◌∙◌, append_assoc, append-nil, inr}
use Rattle.std.specs.Prelude.{Option, Ok, Err}
use Rattle.std.specs.Io.KnownBytes.{Appends}
use Rattle.std.proofs.KnownBytes.{Appends-nil}
use Rattle.ff_rec.specs.Counts.{counted}
use Rattle.ff_rec.specs.Lines.{Rec, text}
use Rattle.ff_rec.specs.Weights.{Same}
use Rattle.ff_rec.proofs.WeightLaws.{Same-≡, Same-trans, Same-length}
use Rattle.ff_node.specs.Behaviour.{Behaviour, node, node_rejected}
use Rattle.ff_node.specs.Feeds.{in_all}
use Rattle.ff_node.specs.Sends.{Sent, kept_of, nothing_sent}
use Rattle.ff_node.proofs.SendsLaws.{count_more-zero}
use Rattle.ff_net.specs.Forms.{has_wrap}
use Rattle.ff_net.specs.Kept.{AreKept}
use Rattle.ff_net.specs.Meaning.{mean_rejected}
use Rattle.ff_stream.specs.Endings.{halted}
use Rattle.ff_stream.specs.FlowLaws.{Answers-node, Begun-beginning, IsBeginning-node, no-wrap}
use Rattle.ff_stream.specs.Flows.{Flows, IsOpened, due, told, told_of}
use Rattle.ff_stream.specs.Jobs.{Job}
use Rattle.ff_stream.specs.Nodes.{IsNodeOf}
use Rattle.ff_stream.specs.Texts.{Writes, WritesSome}
use Rattle.ff_stream.specs.Works.{Drops, Finishes, Goes, Halts, HasBroken, HasEnded, IsOpen}
use Rattle.ff_stream.specs.declared.ending.Report.{Report}
use Rattle.ff_stream.specs.declared.fault.Halt.{Halt}
use Rattle.ff_stream.specs.declared.fault.Halt.TheVariants.{Write, NoMemory}
use Rattle.ff_stream.specs.declared.flow.Flow.{Flow}
use Rattle.ff_stream.proofs.Gathering.{due-ended, told-ended}
use Rattle.ff_stream.proofs.Goings.{Halts-broken}

-- the records that are kept of those that a node rejects
pub AreKept-kept_of : (keep : Bool) (rejected other kept : List Rec) → Same rejected other → kept ≡ kept_of keep other → AreKept keep rejected kept
AreKept-kept_of true rejected other kept same is = record { all = λ e. Same-trans same (Same-≡ other kept (sym is)); none = λ e. absurd (cc) }
AreKept-kept_of false rejected other kept same is = record { all = λ e. absurd (cc); none = λ e. is }

module _ {S : Type 0} (b : Behaviour S) where
  -- what is due, where the first of what is held was written
  due-split : (w v : Flow S) (put : List ℕ) → w.text ≡ put ++ v.text → v.node ≡ w.node → v.ended ≡ w.ended → v.sends ≡ w.sends → (zs : List Rec) → due b w zs ≡ put ++ due b v zs
  due-split w v put splits node_is ended_is sends_is zs =
      let same : in_all b v.ended v.node v.sends zs ≡ in_all b w.ended w.node w.sends zs =
      ap (λ e. in_all b e v.node v.sends zs) ended_is ∙ ap (λ s. in_all b w.ended s v.sends zs) node_is ∙ ap (λ (o : Sent). in_all b w.ended w.node o zs) sends_is in
      ap (λ l. l ++ text (in_all b w.ended w.node w.sends zs).sends) splits
      ∙ append_assoc put v.text (text (in_all b w.ended w.node w.sends zs).sends)
      ∙ ap (λ (s : Sent). put ++ (v.text ++ text s.sends)) (sym same)

  told-split : (w v : Flow S) → v.node ≡ w.node → v.ended ≡ w.ended → v.sends ≡ w.sends → (zs : List Rec) → told b w zs ≡ told b v zs
  told-split w v node_is ended_is sends_is zs =
      ap (λ (s : Sent). record s { sends = [] })
      (sym (ap (λ e. in_all b e v.node v.sends zs) ended_is ∙ ap (λ s. in_all b w.ended s v.sends zs) node_is ∙ ap (λ (o : Sent). in_all b w.ended w.node o zs) sends_is))

  -- all of it was
  all-put : (w v : Flow S) (rest : List ℕ) (t u : Option (List ℕ)) → v.text ≡ due b w [] → (writes : Writes v.text rest t u) → rest ≡ [] → due b w [] ≡ writes.put
  all-put w v rest t u held writes empty = sym held ∙ writes.splits ∙ ap (λ l. writes.put ++ l) empty ∙ append-nil writes.put

module _ {N S : Type 0} (b : Behaviour S) where
  abbrev flows : Job N → Flow S → List Rec → List ℕ → Type 0
  flows = λ j w xs front. Flows b j w xs front

  -- some records were taken, and some bytes written
  Goes-due : (w v : Flow S) (rs : List Rec) (put : List ℕ) (t u : Option (List ℕ)) → Appends t u put
      → ((zs : List Rec) → due b w (rs ++ zs) ≡ put ++ due b v zs) → ((zs : List Rec) → told b w (rs ++ zs) ≡ told b v zs) → Goes {N = N} flows w rs v t u
  Goes-due w v rs put t u written sends rejects = record {
    put = put;
    taken = written;
    keeps = λ j xs front at. record {
      worker = at.worker;
      stands = at.stands;
      sends = λ zs. ap (λ l. text (node b at.worker l)) (append_assoc xs rs zs) ∙ at.sends (rs ++ zs) ∙ ap (λ l. front ++ l) (sends zs)
          ∙ sym (append_assoc front put (due b v zs));
      rejects = λ zs. ap (λ l. told_of b at.worker j.keep l) (append_assoc xs rs zs) ∙ at.rejects (rs ++ zs) ∙ rejects zs;
    };
  }

  abbrev broken : Job N → Flow S → Halt → List Rec → List ℕ → Type 0
  broken = λ j w halt xs front. IsOpen j halt xs front

  -- what was written begins an answer whatever follows
  pub IsOpen-flows : (j : Job N) (w : Flow S) (xs : List Rec) (front : List ℕ) → Flows b j w xs front → IsOpen j NoMemory xs front
  IsOpen-flows j w xs front at = record {
    begun = λ zs. inr (IsBeginning-node j b at.worker at.stands (xs ++ zs) front (due b w zs) (at.sends zs));
    waits = λ wraps. no-wrap (has_wrap j.net) at.stands.no_wrap wraps;
  }

  -- some records were taken, and it broke off
  Halts-due : (w v : Flow S) (rs : List Rec) (halt : Halt) (put : List ℕ) (back : List Rec → List ℕ) (t u : Option (List ℕ)) → Appends t u put
      → ((zs : List Rec) → due b w (rs ++ zs) ≡ put ++ back zs) → Halts {N = N} flows broken w rs halt v t u
  Halts-due w v rs halt put back t u written sends = Halts-broken flows broken w v rs halt put t u written (λ j xs front at. record {
    begun = λ zs. Begun-beginning j halt ((xs ++ rs) ++ zs) (front ++ put)
        (IsBeginning-node j b at.worker at.stands ((xs ++ rs) ++ zs) (front ++ put) (back zs)
        (ap (λ l. text (node b at.worker l)) (append_assoc xs rs zs) ∙ at.sends (rs ++ zs) ∙ ap (λ l. front ++ l) (sends zs) ∙ sym (append_assoc front put (back zs))));
    waits = λ wraps. no-wrap (has_wrap j.net) at.stands.no_wrap wraps;
  })

  -- memory ran out within a record
  pub Halts-starved : (w v : Flow S) (r : Rec) (t : Option (List ℕ)) → Halts {N = N} flows broken w (r ∷ []) NoMemory v t t
  Halts-starved w v r t = Halts-due w v (r ∷ []) NoMemory [] (λ zs. due b w (r ∷ zs)) t t (Appends-nil t) (λ zs. refl)

  -- a record was taken, and what is held was written as far as it was time to
  pub Goes-handed : (w v u : Flow S) (r : Rec) (t t' : Option (List ℕ)) → ((zs : List Rec) → due b w (r ∷ zs) ≡ due b v zs) → ((zs : List Rec) → told b w (r ∷ zs) ≡ told b v zs)
      → Writes v.text u.text t t' → u.node ≡ v.node → u.ended ≡ v.ended → u.sends ≡ v.sends → Goes {N = N} flows w (r ∷ []) u t t'
  Goes-handed w v u r t t' sends rejects writes node_is ended_is sends_is =
      Goes-due w u (r ∷ []) writes.put t t' writes.taken
      (λ zs. sends zs ∙ due-split b v u writes.put writes.splits node_is ended_is sends_is zs)
      (λ zs. rejects zs ∙ told-split b v u node_is ended_is sends_is zs)

  pub Halts-handed : (w v u : Flow S) (r : Rec) (halt : Halt) (t t' : Option (List ℕ)) → ((zs : List Rec) → due b w (r ∷ zs) ≡ due b v zs)
      → WritesSome v.text t t' → Halts {N = N} flows broken w (r ∷ []) halt u t t'
  Halts-handed w v u r halt t t' sends writes =
      let rest : List Rec → List ℕ = λ zs. text (in_all b v.ended v.node v.sends zs).sends in
      Halts-due w u (r ∷ []) halt writes.put (λ zs. writes.back ++ rest zs) t t' writes.taken
      (λ zs. sends zs ∙ ap (λ l. l ++ rest zs) writes.splits ∙ append_assoc writes.put writes.back (rest zs))

  -- what is held was written
  pub Goes-paused : (w v : Flow S) (t t' : Option (List ℕ)) → Writes w.text v.text t t' → v.node ≡ w.node → v.ended ≡ w.ended → v.sends ≡ w.sends → Goes {N = N} flows w [] v t t'
  Goes-paused w v t t' writes node_is ended_is sends_is =
      Goes-due w v [] writes.put t t' writes.taken (due-split b w v writes.put writes.splits node_is ended_is sends_is) (told-split b w v node_is ended_is sends_is)

  pub Halts-paused : (w v : Flow S) (halt : Halt) (t t' : Option (List ℕ)) → WritesSome w.text t t' → Halts {N = N} flows broken w [] halt v t t'
  Halts-paused w v halt t t' writes =
      let rest : List Rec → List ℕ = λ zs. text (in_all b w.ended w.node w.sends zs).sends in
      Halts-due w v [] halt writes.put (λ zs. writes.back ++ rest zs) t t' writes.taken
      (λ zs. ap (λ l. l ++ rest zs) writes.splits ∙ append_assoc writes.put writes.back (rest zs))

  -- a node that ended drops what comes
  pub Drops-ended : (w : Flow S) → w.ended ≡ true → Drops {N = N} flows w
  Drops-ended w ended j xs rs front at = record {
    worker = at.worker;
    stands = at.stands;
    sends = λ zs. ap (λ l. text (node b at.worker l)) (append_assoc xs rs zs) ∙ at.sends (rs ++ zs) ∙ ap (λ l. front ++ l) (due-ended b w rs ended zs);
    rejects = λ zs. ap (λ l. told_of b at.worker j.keep l) (append_assoc xs rs zs) ∙ at.rejects (rs ++ zs) ∙ told-ended b w rs ended zs;
  }

  module _ (j : Job N) (w : Flow S) (xs : List Rec) (front : List ℕ) (at : Flows b j w xs front) where
    text-due : text (node b at.worker xs) ≡ front ++ due b w []
    text-due = ap (λ l. text (node b at.worker l)) (sym (append-nil xs)) ∙ at.sends []

    told-due : told_of b at.worker j.keep xs ≡ told b w []
    told-due = ap (λ l. told_of b at.worker j.keep l) (sym (append-nil xs)) ∙ at.rejects []

    -- it broke off at its end
    pub HasBroken-due : (halt : Halt) (put back : List ℕ) (t u : Option (List ℕ)) → Appends t u put → due b w [] ≡ put ++ back → HasBroken j halt xs front t u
    HasBroken-due halt put back t u written splits = record {
      put = put;
      taken = written;
      begun = Begun-beginning j halt xs (front ++ put)
          (IsBeginning-node j b at.worker at.stands xs (front ++ put) back (text-due ∙ ap (λ l. front ++ l) splits ∙ sym (append_assoc front put back)));
    }

    -- all was written
    pub HasEnded-due : (report : Report) (put : List ℕ) (t u : Option (List ℕ)) → Appends t u put → due b w [] ≡ put
        → report.rejected ≡ (told b w []).rejects → report.kept ≡ (told b w []).kept → HasEnded j xs front t u report
    HasEnded-due report put t u written whole number kept = record {
      put = put;
      taken = written;
      sent = node b at.worker xs;
      answers = Answers-node j b at.worker at.stands xs;
      whole = text-due ∙ ap (λ l. front ++ l) whole;
      reports = record {
        rejected = number ∙ ap (λ (s : Sent). s.rejects) (sym told-due) ∙ count_more-zero (node_rejected b at.worker xs)
            ∙ ap counted (sym (Same-length (at.stands.rejects j.tasks xs)));
        kept = AreKept-kept_of j.keep (mean_rejected j.does j.tasks j.net xs) (node_rejected b at.worker xs) report.kept (at.stands.rejects j.tasks xs)
            (kept ∙ ap (λ (s : Sent). s.kept) (sym told-due));
      };
    }

  -- what an opened node will have sent and rejected in all
  pub Flows-opened : (j : Job N) (o : S) (keep : Bool) (w : Flow S) → j.keep ≡ keep → IsNodeOf j.does j.net b o → IsOpened b o keep w → Flows b j w [] []
  Flows-opened j o keep w keeps stands opened =
      let all : (zs : List Rec) → in_all b w.ended w.node w.sends zs ≡ in_all b false (b.opening o) (nothing_sent keep) zs =
      λ zs. ap (λ e. in_all b e w.node w.sends zs) opened.runs ∙ ap (λ s. in_all b false s w.sends zs) opened.node
      ∙ ap (λ (s : Sent). in_all b false (b.opening o) s zs) opened.sends in
      record {
        worker = o;
        stands = stands;
        sends = λ zs. sym (ap (λ (s : Sent). w.text ++ text s.sends) (all zs) ∙ ap (λ (l : List ℕ). l ++ text (node b o zs)) opened.text);
        rejects = λ zs. ap (λ k. told_of b o k zs) keeps ∙ sym (ap (λ (s : Sent). record s { sends = [] }) (all zs));
      }

  -- however the work ends
  Finishes-broken : (w : Flow S) (halt : Halt) (put back : List ℕ) (t u : Option (List ℕ)) → Appends t u put → due b w [] ≡ put ++ back → Finishes {N = N} flows w t u (Err (halted halt))
  Finishes-broken w Write put back t u written splits j xs front at = HasBroken-due j w xs front at Write put back t u written splits
  Finishes-broken w NoMemory put back t u written splits j xs front at = HasBroken-due j w xs front at NoMemory put back t u written splits

  -- memory ran out before anything was written
  pub Finishes-memory : (w : Flow S) (t : Option (List ℕ)) → Finishes {N = N} flows w t t (Err (halted NoMemory))
  Finishes-memory w t = Finishes-broken w NoMemory [] (due b w []) t t (Appends-nil t) refl

  -- a part of what is due was written
  pub Finishes-cut : (w v : Flow S) (t u : Option (List ℕ)) → v.text ≡ due b w [] → WritesSome v.text t u → Finishes {N = N} flows w t u (Err (halted Write))
  Finishes-cut w v t u held writes = Finishes-broken w Write writes.put writes.back t u writes.taken (sym held ∙ writes.splits)

  pub Finishes-ended : (w v : Flow S) (rest : List ℕ) (t u : Option (List ℕ)) (report : Report) → v.text ≡ due b w [] → v.sends ≡ told b w [] → Writes v.text rest t u → rest ≡ []
      → report.rejected ≡ v.sends.rejects → report.kept ≡ v.sends.kept → Finishes {N = N} flows w t u (Ok report)
  Finishes-ended w v rest t u report held sends writes empty number kept j xs front at =
      HasEnded-due j w xs front at report writes.put t u writes.taken (all-put b w v rest t u held writes empty)
      (number ∙ ap (λ (s : Sent). s.rejects) sends) (kept ∙ ap (λ (s : Sent). s.kept) sends)
