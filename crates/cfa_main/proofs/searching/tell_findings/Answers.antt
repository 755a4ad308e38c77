use Rattle.std.proofs.Common.{◌∙◌, List, ap, map, subst}
use Rattle.cfa_base.specs.Shown.{Follows}
use Rattle.cfa_outside.specs.Sinks.{adds_bytes}
use Rattle.cfa_main.specs.declared.searching.Found.{Found}
use Rattle.cfa_main.specs.Searches.{search_end, search_text, seen_finding}
use Rattle.cfa_main.proofs.searching.tell_findings.Goals as goal

pub returns-clause-told : goal.returns-clause-told
returns-clause-told g c = (
  map seen_finding c.in_ok-found.found.items,
  c.in_ok-found.ensures,
  c.search_end.ensures ∙ ap (λ (found : List Found). search_end (map seen_finding found)) c.deref-2.ensures.value,
  subst (λ bytes. Follows (adds_bytes bytes) (g.O.Sink.shown c.args.out.now) (g.O.Sink.shown c.put_all.new.out))
      (c.as_bytes.ensures.value ∙ c.in_ok-text.ensures ∙ ap (λ (found : List Found). search_text (map seen_finding found)) c.deref.ensures.value) c.in_ok-put_all.ensures.ok,
)
