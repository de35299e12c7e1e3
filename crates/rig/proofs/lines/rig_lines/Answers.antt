use Rattle.std.proofs.Common.{◌≡◌, ◌++◌, List, IfOk, OnOk, OnErr, sym, subst}
use Rattle.kit_bytes.specs.declared.kind.Kind.{Kind}
use Rattle.kit_bytes.specs.declared.kind.Kind.TheVariants.{Qmi, Mbim}
use Rattle.core_bench.specs.Runs.{Run}
use Rattle.qmi_proxy.specs.Proxy as qmi_proxy
use Rattle.mbim_proxy.specs.Proxy as mbim_proxy
use Rattle.rig_stage.specs.Running.{AreRecorded}
use Rattle.rig_stage.proofs.Stopping.{on_err}
use Rattle.rig_runs.specs.Qmi as qmi
use Rattle.rig_runs.specs.Mbim as mbim
use Rattle.rig_trace.specs.Qmi.{qmi_reading}
use Rattle.rig_trace.specs.Mbim.{mbim_reading}
use Rattle.rig.specs.Begun.{AddsFirst}
use Rattle.rig.specs.Lines.{alone_of, events_of, rig_lines, runs_of, summary_of}
use Rattle.rig.proofs.Running.{if_ok, then_ok}
use Rattle.rig.proofs.Coming.{all_runs, the_lines}
use Rattle.rig.proofs.Stopping.{first_of_all}
use Rattle.rig.proofs.Qmi.{qmi_is_lawful}
use Rattle.rig.proofs.Mbim.{mbim_is_lawful}
use Rattle.rig.proofs.lines.rig_lines.Goals as goal

pub returns-in-Qmi-clause-lines : goal.returns-in-Qmi-clause-lines
returns-in-Qmi-clause-lines g c =
    subst (λ (kind : Kind). IfOk c.lines.result (λ lines. lines ≡ rig_lines kind c.args.clients c.args.turns c.args.number)) (sym c.in-Qmi.is)
    (if_ok c.lines.result (λ text tells. the_lines qmi_reading (qmi_proxy.proxy_of qmi.setup) Qmi (λ d. alone_of Qmi d (events_of Qmi c.args.clients c.args.turns c.args.number)) c.args.clients c.args.turns (events_of Qmi c.args.clients c.args.turns c.args.number) (summary_of Qmi c.args.clients c.args.turns (events_of Qmi c.args.clients c.args.turns c.args.number))
    (qmi_is_lawful c.args.clients c.args.turns c.args.number c.requires.some c.requires.few c.requires.short) (g.B.Bench.runs c.args.bench.now) (g.B.Bench.runs c.lines.new.bench) text tells) c.lines.ensures.tells)

pub returns-in-Qmi-clause-runs : goal.returns-in-Qmi-clause-runs
returns-in-Qmi-clause-runs g c =
    subst (λ (kind : Kind). OnOk c.lines.result ((earlier : List Run) → AreRecorded (g.B.Bench.runs c.args.bench.now) earlier → AreRecorded (g.B.Bench.runs c.lines.new.bench) (runs_of kind c.args.clients c.args.turns c.args.number ++ earlier))) (sym c.in-Qmi.is)
    (then_ok c.lines.result (λ text tells. all_runs qmi_reading (qmi_proxy.proxy_of qmi.setup) Qmi (λ d. alone_of Qmi d (events_of Qmi c.args.clients c.args.turns c.args.number)) c.args.clients c.args.turns (events_of Qmi c.args.clients c.args.turns c.args.number) (summary_of Qmi c.args.clients c.args.turns (events_of Qmi c.args.clients c.args.turns c.args.number))
    (qmi_is_lawful c.args.clients c.args.turns c.args.number c.requires.some c.requires.few c.requires.short) (g.B.Bench.runs c.args.bench.now) (g.B.Bench.runs c.lines.new.bench) text tells) c.lines.ensures.tells)

pub returns-in-Mbim-clause-lines : goal.returns-in-Mbim-clause-lines
returns-in-Mbim-clause-lines g c =
    subst (λ (kind : Kind). IfOk c.lines-in-Mbim.result (λ lines. lines ≡ rig_lines kind c.args.clients c.args.turns c.args.number)) (sym c.in-Mbim.is)
    (if_ok c.lines-in-Mbim.result (λ text tells. the_lines mbim_reading (mbim_proxy.proxy_of mbim.setup) Mbim (λ d. alone_of Mbim d (events_of Mbim c.args.clients c.args.turns c.args.number)) c.args.clients c.args.turns (events_of Mbim c.args.clients c.args.turns c.args.number) (summary_of Mbim c.args.clients c.args.turns (events_of Mbim c.args.clients c.args.turns c.args.number))
    (mbim_is_lawful c.args.clients c.args.turns c.args.number c.requires.some c.requires.few c.requires.short) (g.B.Bench.runs c.args.bench.now) (g.B.Bench.runs c.lines-in-Mbim.new.bench) text tells) c.lines-in-Mbim.ensures.tells)

pub returns-in-Mbim-clause-runs : goal.returns-in-Mbim-clause-runs
returns-in-Mbim-clause-runs g c =
    subst (λ (kind : Kind). OnOk c.lines-in-Mbim.result ((earlier : List Run) → AreRecorded (g.B.Bench.runs c.args.bench.now) earlier → AreRecorded (g.B.Bench.runs c.lines-in-Mbim.new.bench) (runs_of kind c.args.clients c.args.turns c.args.number ++ earlier))) (sym c.in-Mbim.is)
    (then_ok c.lines-in-Mbim.result (λ text tells. all_runs mbim_reading (mbim_proxy.proxy_of mbim.setup) Mbim (λ d. alone_of Mbim d (events_of Mbim c.args.clients c.args.turns c.args.number)) c.args.clients c.args.turns (events_of Mbim c.args.clients c.args.turns c.args.number) (summary_of Mbim c.args.clients c.args.turns (events_of Mbim c.args.clients c.args.turns c.args.number))
    (mbim_is_lawful c.args.clients c.args.turns c.args.number c.requires.some c.requires.few c.requires.short) (g.B.Bench.runs c.args.bench.now) (g.B.Bench.runs c.lines-in-Mbim.new.bench) text tells) c.lines-in-Mbim.ensures.tells)

pub returns-in-Qmi-clause-stops : goal.returns-in-Qmi-clause-stops
returns-in-Qmi-clause-stops g c =
    subst (λ (kind : Kind). OnErr c.lines.result (AddsFirst (g.B.Bench.runs c.args.bench.now) (runs_of kind c.args.clients c.args.turns c.args.number) (g.B.Bench.runs c.lines.new.bench))) (sym c.in-Qmi.is)
    (on_err c.lines.result (λ stops. first_of_all qmi_reading (qmi_proxy.proxy_of qmi.setup) Qmi (λ d. alone_of Qmi d (events_of Qmi c.args.clients c.args.turns c.args.number)) c.args.clients c.args.turns (events_of Qmi c.args.clients c.args.turns c.args.number) (summary_of Qmi c.args.clients c.args.turns (events_of Qmi c.args.clients c.args.turns c.args.number))
    (qmi_is_lawful c.args.clients c.args.turns c.args.number c.requires.some c.requires.few c.requires.short) (g.B.Bench.runs c.args.bench.now) (g.B.Bench.runs c.lines.new.bench) stops) c.lines.ensures.stops)

pub returns-in-Mbim-clause-stops : goal.returns-in-Mbim-clause-stops
returns-in-Mbim-clause-stops g c =
    subst (λ (kind : Kind). OnErr c.lines-in-Mbim.result (AddsFirst (g.B.Bench.runs c.args.bench.now) (runs_of kind c.args.clients c.args.turns c.args.number) (g.B.Bench.runs c.lines-in-Mbim.new.bench))) (sym c.in-Mbim.is)
    (on_err c.lines-in-Mbim.result (λ stops. first_of_all mbim_reading (mbim_proxy.proxy_of mbim.setup) Mbim (λ d. alone_of Mbim d (events_of Mbim c.args.clients c.args.turns c.args.number)) c.args.clients c.args.turns (events_of Mbim c.args.clients c.args.turns c.args.number) (summary_of Mbim c.args.clients c.args.turns (events_of Mbim c.args.clients c.args.turns c.args.number))
    (mbim_is_lawful c.args.clients c.args.turns c.args.number c.requires.some c.requires.few c.requires.short) (g.B.Bench.runs c.args.bench.now) (g.B.Bench.runs c.lines-in-Mbim.new.bench) stops) c.lines-in-Mbim.ensures.stops)
