use Rattle.mtn_order.proofs.Free.{step_free, steps_same}
use Rattle.mtn_order.proofs.order_free.Goals as goal

pub returns-clause-step : goal.returns-clause-step
returns-clause-step c f call payload free ids s t o same does = step_free f call payload free ids s t o same does

pub returns-clause-same : goal.returns-clause-same
returns-clause-same c f call payload s t o p free ids same does also = steps_same f call payload free ids s t o p same does also
