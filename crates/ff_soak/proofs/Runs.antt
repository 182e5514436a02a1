-- What a run over the records tells: they were all read, and the text that was taken is that of an answer.
use Rattle.std.proofs.Common.{◌≡◌, ℕ, zero, suc, ◌≤◌, Bool, false, List, ◌++◌, length, Option, None, Some, pos, refl, sym, ap, ap₂, ◌∙◌, subst, arith}
use Rattle.std.proofs.lemmas.List.{append-nil}
use Rattle.std.specs.Prelude.{◌-ℤ◌}
use Rattle.ff_rec.specs.Limits.{limit, seen_by}
use Rattle.ff_rec.specs.Lines.{Rec, IsRec, records, text}
use Rattle.ff_rec.specs.Weights.{Same}
use Rattle.ff_rec.specs.declared.fault.LineFault.{LineFault}
use Rattle.ff_rec.proofs.Joins.{AllByRecursion-weaker}
use Rattle.ff_rec.proofs.WeightLaws.{Same-sym, Same-length}
use Rattle.ff_rec.proofs.Written.{records-text}
use Rattle.ff_net.specs.Forms.{is_ordered}
use Rattle.ff_net.specs.Meaning.{SameInOrder, mean}
use Rattle.ff_net.specs.Tree.{Tree}
use Rattle.ff_net.specs.Versions.{line_bytes, input_bytes, limit_by}
use Rattle.ff_net.specs.declared.net.Version.{Version}
use Rattle.ff_net.specs.declared.net.Version.TheVariants.{One, Two}
use Rattle.ff_ops.specs.FoldSums.{sum_above, sum_below}
use Rattle.ff_ops.specs.Operation.{OpState, op_node}
use Rattle.ff_stream.specs.Endings.{HasRun, IsOverrun, Stopped, records_of, stop_count}
use Rattle.ff_stream.specs.Jobs.{job}
use Rattle.ff_stream.specs.Streams.{Streams, streams}
use Rattle.ff_stream.specs.declared.ending.Ending.{Ending}
use Rattle.ff_stream.specs.declared.ending.Stop.{Stop}
use Rattle.ff_stream.specs.declared.ending.Stop.TheVariants.{End, Read, Line}
use Rattle.ff_soak.specs.Networks.{soak_net, soak_answer}
use Rattle.ff_soak.specs.Outside.{Making, Held, opened_making, opened_held}
use Rattle.ff_soak.specs.Records.{records_behind, soak_records}
use Rattle.ff_soak.specs.Summaries.{summary_of}
use Rattle.ff_soak.specs.declared.summary.Summary.{Summary}
use Rattle.ff_soak.proofs.Limits.{limit-text, limit-front}
use Rattle.ff_soak.proofs.Pairs.{IsPair, IsRec-pair, All-Same, All-records_behind, All-soak_answer}

-- there are as many records as are asked for
length-records_behind : (i n : ℕ) → length (records_behind i n) ≡ n
length-records_behind i zero = refl
length-records_behind i (suc k) = ap suc (length-records_behind (suc i) k)

-- a line of the records is short in each version
line_bytes-short : (v : Version) → 7 ≤ line_bytes v
line_bytes-short One = omega arith
line_bytes-short Two = omega arith

-- whatever was read of the text passes no limit
limit_by-front : (v : Version) (n : ℕ) (got left : List ℕ) → n ≤ 10000000 → text (soak_records n) ≡ got ++ left → limit_by v got ≡ None
limit_by-front v n got left few splits =
    limit-front (line_bytes v) input_bytes got left
    (ap (limit (line_bytes v) input_bytes) (sym splits) ∙ limit-text (line_bytes v) input_bytes n (line_bytes-short v) (omega arith))

-- the text was read to its end, as the records
read-all : (stop : Stop) (v : Version) (n : ℕ) (got left : List ℕ) (ended : Bool) → n ≤ 10000000 → text (soak_records n) ≡ got ++ left
    → Stopped stop (limit_by v got) ended (Some left) → 0 ≡ stop_count 0 stop → seen_by (limit_by v got) input_bytes got ended ≡ soak_records n
read-all End v n got left ended few splits h counts =
    let whole : got ≡ text (soak_records n) = sym (splits ∙ ap (λ (rest : List ℕ). got ++ rest) h.2 ∙ append-nil got) in
    ap₂ (λ (o : Option LineFault) (e : Bool). seen_by o input_bytes got e) h.0 h.1
    ∙ ap records whole ∙ records-text (soak_records n) (AllByRecursion-weaker IsPair IsRec IsRec-pair (soak_records n) (All-records_behind 0 n))
read-all Read v n got left ended few splits h counts = absurd (omega arith)
read-all (Line fault) v n got left ended few splits h counts =
    let none : limit_by v got ≡ None = limit_by-front v n got left few splits in
    let clash : Some fault ≡ None = sym h.0 ∙ none in
    absurd (cc)

-- lists that are the same have one summary
summary_of-Same : (n : ℕ) (xs ys : List Rec) → Same xs ys → summary_of n xs ≡ summary_of n ys
summary_of-Same n xs ys same =
    let make : ℕ → ℕ → ℕ → Summary = λ keys plus minus. record { records = n; keys = keys; total = pos plus -ℤ pos minus } in
    ap (λ keys. make keys (sum_above 2 xs) (sum_below 2 xs)) (Same-length same)
    ∙ ap₂ (λ plus minus. make (length ys) plus minus) (same.by _) (same.by _)

-- what is read of the text of an answer has the answer's summary
summary_of-sent : (m w n : ℕ) (sent : List Rec) → Same (soak_answer m w n) sent → summary_of n (records (text sent)) ≡ summary_of n (soak_answer m w n)
summary_of-sent m w n sent same =
    let plain = AllByRecursion-weaker IsPair IsRec IsRec-pair (soak_answer m w n) (All-soak_answer m w n) in
    ap (summary_of n) (records-text sent (All-Same IsRec sent (soak_answer m w n) (Same-sym same) plain))
    ∙ summary_of-Same n sent (soak_answer m w n) (Same-sym same)

-- what a soak's source and sink tell of themselves before and after a run
abbrev pub soak_streams : Making → Making → Held → Held → Streams
soak_streams source source_now sink sink_now = streams (λ (s : Making). Some s.left) (λ (s : Making). s.ended) (λ (s : Making). 0) (λ (s : Held). Some s.bytes) source source_now sink sink_now

module _ (net : Tree OpState) (version : Version) (limit w n : ℕ) (source source_now : Making) (sink sink_now : Held) (ending : Ending)
    (few : n ≤ 10000000) (net_is : net ≡ soak_net w) (made : source ≡ opened_making n) (holds : sink ≡ opened_held)
    (run : HasRun (job op_node net version limit false) (soak_streams source source_now sink sink_now) ending) (counts : 0 ≡ stop_count 0 ending.stop) where
  pub records_of-run : records_of (job op_node net version limit false) (soak_streams source source_now sink sink_now) run.got ≡ soak_records n
  records_of-run =
      read-all ending.stop version n run.got source_now.left source_now.ended few (sym (ap (λ (s : Making). s.left) made) ∙ run.reads) run.stops counts

  -- the records that were read are as many as were asked for
  pub length-run : length (records_of (job op_node net version limit false) (soak_streams source source_now sink sink_now) run.got) ≡ n
  length-run = ap length records_of-run ∙ length-records_behind 0 n

  -- the text that was taken has the summary of the answer, whatever the number of workers
  pub summary_of-run : (v : ℕ) → summary_of n (records sink_now.bytes) ≡ summary_of n (soak_answer limit v n)
  summary_of-run v =
      let taken : sink_now.bytes ≡ text run.sent = run.writes ∙ ap (λ (s : Held). s.bytes ++ text run.sent) holds in
      let of_net : SameInOrder (is_ordered net) (mean op_node limit net (soak_records n)) run.sent =
      subst (λ (xs : List Rec). SameInOrder (is_ordered net) (mean op_node limit net xs) run.sent) records_of-run run.answers.same in
      let same : Same (soak_answer limit v n) run.sent =
      subst (λ (t : Tree OpState). SameInOrder (is_ordered t) (mean op_node limit t (soak_records n)) run.sent) net_is of_net in
      ap (λ (bytes : List ℕ). summary_of n (records bytes)) taken ∙ summary_of-sent limit v n run.sent same

-- no wrap stands in the network, so it is never over a limit
pub not_overrun : (net : Tree OpState) (version : Version) (limit w : ℕ) (s : Streams) → net ≡ soak_net w
    → IsOverrun (job op_node net version limit false) s → ⊥
not_overrun net version limit w s net_is h =
    let h' = subst (λ (t : Tree OpState). IsOverrun (job op_node t version limit false) s) net_is h in
    h'.over (tt, ((tt, tt), tt))
